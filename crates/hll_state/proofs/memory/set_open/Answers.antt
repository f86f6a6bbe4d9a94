-- SPDX-License-Identifier: Apache-2.0
use Rattle.std.proofs.Common.{◌≡◌, ℕ, ◌+◌, ◌/◌, ◌%◌, ◌<◌, ◌≤◌, ◌^◌, Bool, true, false, nat_eq, Option, None, Some, List, [], ◌∷◌, length, refl, sym, ap, ◌∙◌, arith}
use Rattle.std.specs.Int.{w32, from_le_bytes}
use Rattle.std.specs.Prelude.{slice_index, slice_set}
use Rattle.std.proofs.lemmas.Bool.{eq-eqb, ne_eqb}
use Rattle.hll_state.specs.CouponRun.{raws}
use Rattle.hll_state.specs.Header.{header_of, held_in_header, with_held}
use Rattle.hll_state.specs.declared.header.Held.{Held}
use Rattle.hll_state.proofs.Numbers.{written_number}
use Rattle.hll_state.proofs.memory.set_open.Goals.{then-is_open, else-is_open}
use Rattle.hll_state.proofs.memory.set_open.Goals as goal

-- the second number, from which an lg_k and bit 5 are read
second : (elements : List (List ℕ)) (bytes : List ℕ) → 10 ≤ length elements → slice_index (raws (slice_set elements 1 bytes)) 1 ≡ from_le_bytes w32 bytes
second [] bytes there = absurd (omega (arith, there))
second (a ∷ []) bytes there = absurd (omega (arith, there))
second (a ∷ b ∷ rest) bytes there = refl

same_header : (elements : List (List ℕ)) (bytes : List ℕ) → 10 ≤ length elements → from_le_bytes w32 bytes % 32 ≡ slice_index (raws elements) 1 % 32
    → header_of (raws (slice_set elements 1 bytes)) ≡ header_of (raws elements)
same_header [] bytes there same = absurd (omega (arith, there))
same_header (a ∷ []) bytes there same = absurd (omega (arith, there))
same_header (a ∷ b ∷ rest) bytes there same = of (held_in_header (raws (a ∷ b ∷ rest)))
  where
    of : (o : Option Held) → with_held (raws (a ∷ bytes ∷ rest)) o ≡ with_held (raws (a ∷ b ∷ rest)) o
    of None = refl
    of (Some held) = λ i. Some (record { lg_k = same i; widths = slice_index (raws (a ∷ b ∷ rest)) 2 % 8; held = held })

opened : (n k : ℕ) (b : Bool) → b ≡ true → n ≡ k % 32 + 32 → nat_eq (n / 32 % 2) 1 ≡ b
opened n k b yes' is = eq-eqb (n / 32 % 2) 1 (omega (arith, is)) ∙ sym yes'

decided : (n k : ℕ) (b : Bool) → b ≡ false → n ≡ k % 32 → nat_eq (n / 32 % 2) 1 ≡ b
decided n k b other is = ne_eqb (n / 32 % 2) 1 (λ e. omega (arith, e, is)) ∙ sym other

pub returns-clause-lg_k_open : goal.returns-clause-lg_k_open
returns-clause-lg_k_open c =
    let n : ℕ = c.if-is_open.number in
    let small : n < 2 ^ 32 = elim c.if-is_open.branch [ then-is_open w ↦ omega (arith, w.number-is) | else-is_open w ↦ omega (arith, w.number-is) ] in
    let is : slice_index (raws (slice_set c.args.elements.now 1 c.to_le_bytes.result)) 1 ≡ n = second c.args.elements.now c.to_le_bytes.result c.requires.there ∙ written_number c.to_le_bytes.result n small c.to_le_bytes.ensures in
    ap (λ m. nat_eq (m / 32 % 2) 1) is
    ∙ elim c.if-is_open.branch [
      | then-is_open w ↦ opened n c.get-lg_k.result c.args.is_open w.if-is_open.true w.number-is
      | else-is_open w ↦ decided n c.get-lg_k.result c.args.is_open w.if-is_open.false w.number-is
    ]

pub returns-clause-header : goal.returns-clause-header
returns-clause-header c =
    let n : ℕ = c.if-is_open.number in
    let k : ℕ = c.get-lg_k.result in
    let small : n < 2 ^ 32 = elim c.if-is_open.branch [ then-is_open w ↦ omega (arith, w.number-is) | else-is_open w ↦ omega (arith, w.number-is) ] in
    let same : n % 32 ≡ k % 32 = elim c.if-is_open.branch [ then-is_open w ↦ omega (arith, w.number-is) | else-is_open w ↦ omega (arith, w.number-is) ] in
    same_header c.args.elements.now c.to_le_bytes.result c.requires.there
    (ap (λ m. m % 32) (written_number c.to_le_bytes.result n small c.to_le_bytes.ensures) ∙ same ∙ ap (λ m. m % 32) c.get-lg_k.ensures)
