-- SPDX-License-Identifier: Apache-2.0
use Rattle.std.proofs.Common.{◌≡◌, ◌+◌, ◌*◌, ◌/◌, ◌%◌, ◌∷◌, [], ℕ, length, get_or, take, refl, sym, ap, ◌∙◌, arith}
use Rattle.std.proofs.lemmas.List.{length-take-le, take_all, take_more}
use Rattle.hll_base.specs.Join.{join}
use Rattle.hll_kernels.specs.Lanes.{max_at, nibble_values}
use Rattle.hll_kernels.proofs.FourBitLanes.{length-nibble_values, nibble_values-append}
use Rattle.hll_kernels.proofs.Parts.{max_none, max_more, max_step, max_all}
use Rattle.hll_kernels.proofs.nibbles.max_one_by_one.Goals as goal

pub loop-place-init : goal.loop-place-init
loop-place-init c = sym (max_none 0 c.args.values.now)

pub loop-place-preserved : goal.loop-place-preserved
loop-place-preserved c =
    let R = c.args.values.now in
    let B = c.args.bytes.now in
    let V = c.loop-place.values in
    let m : ℕ = c.args.minimum in
    let p : ℕ = c.loop-place.place in
    let b : ℕ = get_or B p 0 in
    let low : c.max_one.new.dst ≡ max_at (2 * p) V ((m + b % 16) ∷ []) = c.max_one.ensures in
    let high : c.max_one-in-loop-place.new.dst ≡ max_at (2 * p + 1) c.max_one.new.dst ((m + b / 16) ∷ []) = c.max_one-in-loop-place.ensures in
    high ∙ ap (λ S. max_at (2 * p + 1) S ((m + b / 16) ∷ [])) low
    ∙ max_more (2 * p) (2 * p + 1) V ((m + b % 16) ∷ []) ((m + b / 16) ∷ []) refl (omega (arith, c.loop-place.auto.values, c.requires.size, c.loop-place-test.true))
    ∙ max_step (2 * p) R V (nibble_values m (take p B)) (nibble_values m (b ∷ [])) c.loop-place.invariant
    (omega (arith, length-nibble_values m (take p B), length-take-le p B (omega (arith, c.loop-place-test.true)))) (omega (arith, c.requires.size, c.loop-place-test.true))
    ∙ ap (max_at 0 R) (sym (ap (nibble_values m) (take_more B p 0 c.loop-place-test.true) ∙ nibble_values-append m (take p B) (b ∷ [])))

pub returns : goal.returns
returns c =
    let B = c.args.bytes.now in
    let m : ℕ = c.args.minimum in
    let p : ℕ = c.loop-place.place in
    let whole : take p B ≡ B = take_all p B (omega (arith, c.loop-place-test.false)) in
    max_all c.args.values.now c.loop-place.values (nibble_values m (take p B)) c.loop-place.invariant (omega (arith, length-nibble_values m (take p B), ap length whole, c.requires.size))
    ∙ ap (λ Q. join c.args.values.now (nibble_values m Q)) whole
