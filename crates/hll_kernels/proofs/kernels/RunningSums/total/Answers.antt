-- SPDX-License-Identifier: Apache-2.0
use Rattle.std.proofs.Common.{arith}
use Rattle.hll_kernels.proofs.WeightParts.{lanes_fit}
use Rattle.hll_kernels.proofs.kernels.RunningSums.total.Goals as goal

pub sum_of_eight-requires : goal.sum_of_eight-requires
sum_of_eight-requires c = let fit = lanes_fit _ c.requires.0 c.requires.1 c.requires.2 in omega (arith, fit.0)

pub overflow_add-result-2 : goal.overflow_add-result-2
overflow_add-result-2 c =
    let fit = lanes_fit _ c.requires.0 c.requires.1 c.requires.2 in
    record { fits = omega (arith, c.sum_of_eight.ensures, c.from-upper.ensures, c.sum_of_eight-2.ensures, c.from-lower.ensures, fit.0, fit.1, fit.2) }

pub returns : goal.returns
returns c R are =
    let fit = lanes_fit _ c.requires.0 c.requires.1 c.requires.2 in
    record {
      low = omega (arith, c.sum_of_eight.ensures, c.from-upper.ensures, c.sum_of_eight-2.ensures, c.from-lower.ensures, fit.0, fit.1, are.low);
      high = are.high;
    }
