-- SPDX-License-Identifier: Apache-2.0
use Rattle.std.proofs.Common.{arith}
use Rattle.hll_kernels.proofs.WeightParts.{units-parts}
use Rattle.hll_sketch.proofs.totals.totals_of_groups.Goals as goal

pub returns-clause-sum : goal.returns-clause-sum
returns-clause-sum c =
    omega (arith, units-parts c.args.source.now.registers c.lg_k-lg_k.ensures.legal.registers.small, c.units.ensures, c.zeros_and_sums-zeros.ensures.sums.low, c.zeros_and_sums-zeros.ensures.sums.high)
