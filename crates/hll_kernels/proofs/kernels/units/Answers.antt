-- SPDX-License-Identifier: Apache-2.0
use Rattle.std.proofs.Common.{arith}
use Rattle.hll_kernels.proofs.Grouping.{units-le}
use Rattle.hll_kernels.proofs.WeightParts.{units-parts}
use Rattle.hll_kernels.proofs.kernels.units.Goals as goal

pub returns-clause-units : goal.returns-clause-units
returns-clause-units c = omega (arith, units-parts c.args.bytes.now c.requires.small, c.units.ensures, c.weight_sums.ensures.low, c.weight_sums.ensures.high)

pub returns-clause-bound : goal.returns-clause-bound
returns-clause-bound c = omega (arith, returns-clause-units c, units-le c.args.bytes.now, c.requires.few)
