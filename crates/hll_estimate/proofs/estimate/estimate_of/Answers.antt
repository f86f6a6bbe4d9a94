-- SPDX-License-Identifier: Apache-2.0
use Rattle.std.proofs.Common.{◌≡◌, ◌≢◌, ℕ, ◌-◌, ◌*◌, ◌^◌, ◌<◌, ◌≤◌, ◌%◌, ap, sym, ◌∙◌, arith}
use Rattle.std.specs.Prelude.{max}
use Rattle.hll_estimate.specs.declared.estimate.Estimate.TheVariants.{Finite}
use Rattle.hll_estimate.specs.Estimate.{AreOfRegisters, none, all_greatest, finite, least_estimate}
use Rattle.hll_estimate.specs.FixedPoint.{raw_estimate_of}
use Rattle.hll_estimate.proofs.Lists.{bounded_of, zero_count_most, weight_least, estimate_finite}
use Rattle.hll_estimate.proofs.Meaning.{finite_means}
use Rattle.hll_estimate.proofs.estimate.estimate_of.Goals as goal

-- not all registers are 0, and not all are 63
some : (k c u m : ℕ) → AreOfRegisters k c u → m ≡ 2 ^ k → c ≢ m → c < 2 ^ k
some k c u m a is other = let most = zero_count_most k c u a in omega (arith, is, most, other)

more : (k c u m : ℕ) → AreOfRegisters k c u → m ≡ 2 ^ k → u ≢ m → 2 ^ k < u
more k c u m a is other = let least = weight_least k c u a in omega (arith, is, least, other)

pub returns-then-zeros-registers-clause-near : goal.returns-then-zeros-registers-clause-near
returns-then-zeros-registers-clause-near c = none (omega (arith, c.if-zeros-registers.true, c.registers_of-registers.ensures.value))

pub returns-then-units-from-clause-near : goal.returns-then-units-from-clause-near
returns-then-units-from-clause-near c = all_greatest (omega (arith, c.if-units-from.true, c.from.ensures, c.registers_of-registers.ensures.value))

pub raw_estimate-requires : goal.raw_estimate-requires
raw_estimate-requires c =
    bounded_of c.args.lg_k c.args.zeros c.args.units c.requires (some c.args.lg_k c.args.zeros c.args.units c.registers_of-registers.result c.requires c.registers_of-registers.ensures.value c.if-zeros-registers.false)

-- the result, as it is computed
result_is : (k c u m d raw n : ℕ) → m ≡ 2 ^ k → m ≤ 2 ^ 21 → d ≡ m - c → raw ≡ raw_estimate_of k c u → n ≡ max raw ((d * 4294967296) % 2 ^ 128) → n ≡ max (raw_estimate_of k c u) (least_estimate k c)
result_is k c u m d raw n em small ed er en = omega (arith, em, small, ed, er, en)

pub returns-clause-near : goal.returns-clause-near
returns-clause-near c =
    let k : ℕ = c.args.lg_k in
    let size = c.registers_of-registers.ensures.value in
    let few = some k c.args.zeros c.args.units c.registers_of-registers.result c.requires size c.if-zeros-registers.false in
    let heavy = more k c.args.zeros c.args.units c.from.result c.requires (c.from.ensures ∙ size) c.if-units-from.false in
    let is = result_is k c.args.zeros c.args.units c.registers_of-registers.result c.from-least.result c.raw_estimate.result c.max.result size c.registers_of-registers.ensures.small c.from-least.ensures c.raw_estimate.ensures.value c.max.ensures in
    rw is (finite few heavy (finite_means k c.args.zeros c.args.units (bounded_of k c.args.zeros c.args.units c.requires few)))

pub returns-clause-value : goal.returns-clause-value
returns-clause-value c =
    let k : ℕ = c.args.lg_k in
    let size = c.registers_of-registers.ensures.value in
    let few = some k c.args.zeros c.args.units c.registers_of-registers.result c.requires size c.if-zeros-registers.false in
    let heavy = more k c.args.zeros c.args.units c.from.result c.requires (c.from.ensures ∙ size) c.if-units-from.false in
    let is = result_is k c.args.zeros c.args.units c.registers_of-registers.result c.from-least.result c.raw_estimate.result c.max.result size c.registers_of-registers.ensures.small c.from-least.ensures c.raw_estimate.ensures.value c.max.ensures in
    ap (λ n. Finite n) is ∙ sym (estimate_finite k c.args.zeros c.args.units few heavy)
