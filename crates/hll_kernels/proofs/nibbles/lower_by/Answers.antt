-- SPDX-License-Identifier: Apache-2.0
use Rattle.std.proofs.Common.{arith, ℕ, ◌≡◌, ◌<◌, ◌≤◌, ◌⊎◌, ◌∙◌, ◌*◌, All, inl, inr, sym, ap, subst, length}
use Rattle.std.proofs.lemmas.List.{length-map}
use Rattle.hll_kernels.specs.Packed.{nibble_at, lowered_nibble, lowered_byte}
use Rattle.hll_kernels.proofs.SingleNibbles.{none_zero, lowered_by-some, lowered_by-more, nibble_at-lowered, nibble_at-small, fits-lowered}
use Rattle.hll_kernels.proofs.nibbles.lower_by.Goals as goal

-- 15, or above the steps made
above : (n i steps : ℕ) → i < steps → (n ≡ 15) ⊎ (steps ≤ n) → (n ≡ 15) ⊎ (i < n)
above n i steps l h = elim h [ inl e ↦ inl e | inr m ↦ inr (omega (arith, l, m)) ]

pub lower_nibbles-requires-clause-none : goal.lower_nibbles-requires-clause-none
lower_nibbles-requires-clause-none c =
    none_zero c.loop.bytes c.loop.invariant.fits (λ s l z.
    let within : s < 2 * length c.args.bytes.now = omega (arith, l, c.loop.invariant.len) in
    lowered_by-some c.loop.counter (nibble_at c.args.bytes.now s) (above (nibble_at c.args.bytes.now s) c.loop.counter c.args.steps (omega (arith, c.loop-test.true)) (c.requires.high s within))
    (sym (c.loop.invariant.nibbles s within) ∙ z))

pub loop-preserved : goal.loop-preserved
loop-preserved c = record {
  nibbles = λ s l.
      let old : ℕ = nibble_at c.args.bytes.now s in
      ap (λ bytes. nibble_at bytes s) c.lower_nibbles.ensures.lowered
      ∙ nibble_at-lowered c.loop.bytes c.loop.invariant.fits s (omega (arith, l, c.loop.invariant.len))
      ∙ ap lowered_nibble (c.loop.invariant.nibbles s l)
      ∙ lowered_by-more c.loop.counter old (nibble_at-small c.args.bytes.now s) (above old c.loop.counter c.args.steps (omega (arith, c.loop-test.true)) (c.requires.high s l));
  len = ap length c.lower_nibbles.ensures.lowered ∙ length-map c.loop.bytes lowered_byte ∙ c.loop.invariant.len;
  fits = subst (All (λ b. b < 256)) (sym c.lower_nibbles.ensures.lowered) (fits-lowered c.loop.bytes c.loop.invariant.fits);
}
