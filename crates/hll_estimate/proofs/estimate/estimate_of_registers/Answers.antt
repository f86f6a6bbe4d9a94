-- SPDX-License-Identifier: Apache-2.0
use Rattle.std.proofs.Common.{◌≡◌, ℕ, List, ◌∙◌, arith}
use Rattle.hll_kernels.specs.Packed.{zeros, units}
use Rattle.hll_estimate.specs.declared.estimate.Estimate.{Estimate}
use Rattle.hll_estimate.specs.FixedPoint.{fixed_point_estimate}
use Rattle.hll_estimate.specs.Monotone.{fixed_point_estimate_of}
use Rattle.hll_estimate.proofs.Lists.{zero_means, infinite_means}
use Rattle.hll_estimate.proofs.Numbers.{power_small}
use Rattle.hll_estimate.proofs.estimate.estimate_of_registers.Goals as goal

pub units-requires-clause-few : goal.units-requires-clause-few
units-requires-clause-few c = omega (arith, c.requires.registers.size, power_small c.args.lg_k c.requires.most)

-- the result is the estimate of the registers
is_of : (k c u : ℕ) (R : List ℕ) (e : Estimate) → c ≡ zeros R → u ≡ units R → e ≡ fixed_point_estimate k c u → e ≡ fixed_point_estimate_of k R
is_of k c u R e ec eu is = is ∙ (λ i. fixed_point_estimate k (ec i) (eu i))

pub returns-clause-zero : goal.returns-clause-zero
returns-clause-zero c =
    let e = is_of c.args.lg_k c.count_zeros.result c.units.result c.args.registers.now c.estimate_of.result c.count_zeros.ensures.zeros c.units.ensures.units c.estimate_of.ensures.value in
    rw e (zero_means c.args.lg_k c.args.registers.now c.requires.registers)

pub returns-clause-infinite : goal.returns-clause-infinite
returns-clause-infinite c =
    let e = is_of c.args.lg_k c.count_zeros.result c.units.result c.args.registers.now c.estimate_of.result c.count_zeros.ensures.zeros c.units.ensures.units c.estimate_of.ensures.value in
    rw e (infinite_means c.args.lg_k c.args.registers.now c.requires.registers)
