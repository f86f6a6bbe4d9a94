-- SPDX-License-Identifier: Apache-2.0
use Rattle.std.proofs.Common.{[], ◌∷◌, arith}
use Rattle.hll_kernels.proofs.WeightParts.{low_units-le, high_units-le}
use Rattle.hll_kernels.proofs.kernels.WeightSums.replaced.Goals as goal

pub overflow_add-result : goal.overflow_add-result
overflow_add-result c =
    record { fits = omega (arith, c.requires.2.low, low_units-le c.requires.0, c.requires.5, c.value_sums-new.ensures.low, low_units-le (c.args.new ∷ [])) }

pub overflow_add-result-2 : goal.overflow_add-result-2
overflow_add-result-2 c =
    record { fits = omega (arith, c.requires.2.high, high_units-le c.requires.0, c.requires.5, c.value_sums-new.ensures.high, high_units-le (c.args.new ∷ [])) }

pub returns-clause-low : goal.returns-clause-low
returns-clause-low c =
    omega (arith, c.requires.2.low, low_units-le c.requires.0, c.requires.5, c.value_sums-new.ensures.low, low_units-le (c.args.new ∷ []))

pub returns-clause-high : goal.returns-clause-high
returns-clause-high c =
    omega (arith, c.requires.2.high, high_units-le c.requires.0, c.requires.5, c.value_sums-new.ensures.high, high_units-le (c.args.new ∷ []))
