-- SPDX-License-Identifier: Apache-2.0
use Rattle.std.proofs.Common.{◌≡◌, ℕ, ◌+◌, ◌-◌, ◌<◌, ◌^◌, List, get_or, nat_eq, sym, ap, subst, ◌∙◌, arith}
use mir.Val.{bool_byte}
use Rattle.std.proofs.Math.ListN.{set}
use Rattle.std.proofs.Math.Pow.{pow_mono}
use Rattle.std.proofs.lemmas.List.{length-set}
use Rattle.std.proofs.lemmas.List.Elements.{All-set}
use Rattle.hll_base.specs.declared.hll_type.HllType.TheVariants.{Hll4}
use Rattle.hll_kernels.specs.WeightSums.{AreSumsOf}
use Rattle.hll_registers.specs.EstimatorFields.{AreEstimatorFields}
use Rattle.hll_registers.specs.FourBits.{unboxed, unpacked, IsPacked}
use Rattle.hll_registers.specs.Payload.{WritesRegisters}
use Rattle.hll_registers.specs.Store.{Stored}
use Rattle.hll_registers.specs.declared.estimate_state.EstimateState.{EstimateState}
use Rattle.hll_registers.proofs.FourBitReading.{legal, AgreeAbove}
use Rattle.hll_registers.proofs.ImageParts.{nibbles_written}
use Rattle.hll_registers.proofs.NibbleImages.{above, raised, register_is}
use Rattle.hll_registers.proofs.nibble_slice.NibbleSlice.raised_parts.Goals as goal

pub overflow_sub-new : goal.overflow_sub-new
overflow_sub-new g c =
    let x = c.self.inside in
    let R : List ℕ = unpacked x.lg_k x.minimum x.nibbles.now (unboxed x.exceptions) in
    let parts : AgreeAbove x.lg_k x.minimum x.nibbles.now (unboxed x.exceptions) = record { size = c.self.invariant.2; fits = c.self.invariant.3; map_for = c.self.invariant.4; agree = c.self.invariant.5 } in
    let within : c.args.slot < 2 ^ x.lg_k = subst (λ (l : Stored). c.args.slot < 2 ^ l.lg_k) (sym c.self.view_is) c.requires.slot in
    let more : get_or R c.args.slot 0 < c.args.value = subst (λ (l : Stored). get_or l.registers c.args.slot 0 < c.args.value) (sym c.self.view_is) c.requires.greater in
    above parts c.args.slot c.args.value within more

pub zeros_or_count-low_count-requires-clause-few : goal.zeros_or_count-low_count-requires-clause-few
zeros_or_count-low_count-requires-clause-few g c = omega (arith, c.self.invariant.2, pow_mono {i = c.self.inside.lg_k} {j = 21} c.self.invariant.1)

pub overflow_add-self-inside : goal.overflow_add-self-inside
overflow_add-self-inside g c =
    let x = c.self.inside in
    let R : List ℕ = unpacked x.lg_k x.minimum x.nibbles.now (unboxed x.exceptions) in
    let parts : AgreeAbove x.lg_k x.minimum x.nibbles.now (unboxed x.exceptions) = record { size = c.self.invariant.2; fits = c.self.invariant.3; map_for = c.self.invariant.4; agree = c.self.invariant.5 } in
    let within : c.args.slot < 2 ^ x.lg_k = subst (λ (l : Stored). c.args.slot < 2 ^ l.lg_k) (sym c.self.view_is) c.requires.slot in
    let more : get_or R c.args.slot 0 < c.args.value = subst (λ (l : Stored). get_or l.registers c.args.slot 0 < c.args.value) (sym c.self.view_is) c.requires.greater in
    omega (arith, above parts c.args.slot c.args.value within more, c.requires.most, c.nibble_of-old.ensures.small)

pub replaced-sums-requires : goal.replaced-sums-requires
replaced-sums-requires g c =
    let x = c.self.inside in
    let R : List ℕ = unpacked x.lg_k x.minimum x.nibbles.now (unboxed x.exceptions) in
    let parts : AgreeAbove x.lg_k x.minimum x.nibbles.now (unboxed x.exceptions) = record { size = c.self.invariant.2; fits = c.self.invariant.3; map_for = c.self.invariant.4; agree = c.self.invariant.5 } in
    let within : c.args.slot < 2 ^ x.lg_k = subst (λ (l : Stored). c.args.slot < 2 ^ l.lg_k) (sym c.self.view_is) c.requires.slot in
    let more : get_or R c.args.slot 0 < c.args.value = subst (λ (l : Stored). get_or l.registers c.args.slot 0 < c.args.value) (sym c.self.view_is) c.requires.greater in
    let under : c.args.value < x.minimum + 15 = omega (arith, c.if-new-ge-MARK.false) in
    let old : get_or R c.args.slot 0 ≡ x.minimum + c.nibble_of-old.result = register_is parts c.args.slot c.args.value within more under ∙ ap (λ n. x.minimum + n) (sym c.nibble_of-old.ensures.nibble) in (
      R,
      c.args.slot,
      subst (λ (l : Stored). AreSumsOf c.weight_sums.result l.registers) (sym c.self.view_is) c.weight_sums.ensures,
      omega (arith, within, (legal parts).size),
      old,
      omega (arith, (legal parts).size, pow_mono {i = x.lg_k} {j = 21} c.self.invariant.1),
      c.requires.most,
      omega (arith, old, more, c.requires.most),
    )

pub replacing_nibbles-requires-clause-few : goal.replacing_nibbles-requires-clause-few
replacing_nibbles-requires-clause-few g c = omega (arith, c.self.invariant.2, pow_mono {i = c.self.inside.lg_k} {j = 21} c.self.invariant.1)

pub replacing_nibbles-requires-clause-exceptions : goal.replacing_nibbles-requires-clause-exceptions
replacing_nibbles-requires-clause-exceptions g c = c.in_ok-exceptions.ensures.few

pub returns : goal.returns
returns g c =
    let x = c.self.inside in
    let e = unboxed x.exceptions in
    let R : List ℕ = unpacked x.lg_k x.minimum x.nibbles.now (unboxed x.exceptions) in
    let parts : AgreeAbove x.lg_k x.minimum x.nibbles.now (unboxed x.exceptions) = record { size = c.self.invariant.2; fits = c.self.invariant.3; map_for = c.self.invariant.4; agree = c.self.invariant.5 } in
    let within : c.args.slot < 2 ^ x.lg_k = subst (λ (l : Stored). c.args.slot < 2 ^ l.lg_k) (sym c.self.view_is) c.requires.slot in
    let more : get_or R c.args.slot 0 < c.args.value = subst (λ (l : Stored). get_or l.registers c.args.slot 0 < c.args.value) (sym c.self.view_is) c.requires.greater in
    let under : c.args.value < x.minimum + 15 = omega (arith, c.if-new-ge-MARK.false) in
    let old : get_or R c.args.slot 0 ≡ x.minimum + c.nibble_of-old.result = register_is parts c.args.slot c.args.value within more under ∙ ap (λ n. x.minimum + n) (sym c.nibble_of-old.ensures.nibble) in
    let n : ℕ = c.zeros_or_count-low_count.result in
    let new : List ℕ = set x.nibbles.now c.with_nibble.result.0 c.with_nibble.result.1 in
    let packed : IsPacked x.lg_k x.minimum (n - c.from-at_minimum.result) new e (set R c.args.slot c.args.value) =
    raised parts c.args.slot c.args.value within more under n c.from-at_minimum.result new c.self.invariant.1 c.requires.most c.zeros_or_count-low_count.ensures
    (c.from-at_minimum.ensures ∙ ap (λ v. bool_byte (nat_eq v 0)) c.nibble_of-old.ensures.nibble) (omega (arith, c.if-low_count-at_minimum.false))
    (length-set x.nibbles.now c.with_nibble.result.0 c.with_nibble.result.1) (All-set (λ b. b < 256) x.nibbles.now c.with_nibble.result.0 c.with_nibble.result.1 c.with_nibble.ensures.fits c.self.invariant.3)
    c.with_nibble.ensures.nibbles in
    let fields : AreEstimatorFields (set R c.args.slot c.args.value) c.of_sums.result =
    c.of_sums.ensures (set R c.args.slot c.args.value)
    (c.replaced-sums.ensures.sums R c.args.slot (subst (λ (l : Stored). AreSumsOf c.weight_sums.result l.registers) (sym c.self.view_is) c.weight_sums.ensures) (omega (arith, within, (legal parts).size)) old) in
    subst (λ (l : Stored). (state : EstimateState) × AreEstimatorFields (set l.registers c.args.slot c.args.value) state × WritesRegisters c.replacing_nibbles.result l.lg_k Hll4 (set l.registers c.args.slot c.args.value) state) c.self.view_is (
      c.of_sums.result,
      fields,
      nibbles_written x.lg_k x.minimum (n - c.from-at_minimum.result) new c.in_ok-exceptions.exceptions.now c.replacing_nibbles.result e (set R c.args.slot c.args.value) c.of_sums.result c.self.invariant.1 packed
          c.in_ok-exceptions.ensures.order c.replacing_nibbles.ensures,
    )
