-- SPDX-License-Identifier: Apache-2.0
use Rattle.std.proofs.Common.{◌-◌, arith}
use Rattle.hll_kernels.proofs.Weights.{shifted_fits, All-index}
use Rattle.hll_kernels.proofs.kernels.shifted_sums.Goals as goal

pub returns-clause-low : goal.returns-clause-low
returns-clause-low c = shifted_fits _ _ (16 - c.args.least) (omega arith) (omega (arith, c.from-units.ensures, c.window_sum.ensures.bound)) (omega (arith, c.from-units.ensures, c.window_sum.ensures.units))

pub window_sum-requires : goal.window_sum-requires
window_sum-requires c = All-index c.args.differences.now c.requires.small
