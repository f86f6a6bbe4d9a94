-- SPDX-License-Identifier: Apache-2.0
-- Bits of the slots that have a value in a map, set by one entry after the other.
use Rattle.std.proofs.Common.{◌≡◌, ◌≢◌, ℕ, ◌*◌, ◌^◌, ◌≤◌, List, [], ◌∷◌, ◌++◌, All, Option, Some, None, length, refl, sym, ap, ◌∙◌, arith, inl, inr}
use Rattle.std.proofs.lemmas.Bool.{cases_eq}
use Rattle.std.proofs.lemmas.List.Elements.{All-weaker}
use Rattle.hll_coupons.specs.AuxMap.{ExceptionMap, IsMap, MarksValues, entries_in, value_in}
use Rattle.hll_coupons.specs.Blocks.{bit_of}
use Rattle.hll_coupons.proofs.Fillings.{one_more}
use Rattle.hll_coupons.proofs.Pairs.{IsEntryOf, of_value}

-- the bits of the entries so far are set, and no others
pub record MarkedSoFar (m : ExceptionMap) (blocks : List ℕ) (ys : List (ℕ × ℕ)) : Type 0 where
  pub room : 2 ^ m.lg_k ≤ 64 * length blocks
  pub marked : All (λ p. bit_of blocks p.0 ≡ 1) ys
  pub only : (s : ℕ) → bit_of blocks s ≢ 0 → value_in m s ≢ None

pub marked_none : (m : ExceptionMap) (blocks : List ℕ) → 2 ^ m.lg_k ≤ 64 * length blocks → ((s : ℕ) → bit_of blocks s ≡ 0) → MarkedSoFar m blocks []
marked_none m blocks room none = record { room = room; marked = λ i d l. absurd (omega (arith, l)); only = λ s set. absurd (set (none s)) }

pub marked_more : (m : ExceptionMap) (old new : List ℕ) (ys : List (ℕ × ℕ)) (s v : ℕ) → MarkedSoFar m old ys → IsEntryOf m (s, v) → length new ≡ length old → bit_of new s ≡ 1 →
    ((j : ℕ) → j ≢ s → bit_of new j ≡ bit_of old j) → MarkedSoFar m new (ys ++ (s, v) ∷ [])
marked_more m old new ys s v so entry size same others = record {
  room = omega (arith, so.room, size);
  marked = one_more (λ p. bit_of new p.0 ≡ 1) ys (s, v)
      (All-weaker (λ p. bit_of old p.0 ≡ 1) (λ p. bit_of new p.0 ≡ 1) (λ p was. elim (cases_eq p.0 s) [
        | inl e ↦ ap (bit_of new) e ∙ same
        | inr other ↦ others p.0 other ∙ was
      ]) ys so.marked)
      same;
  only = λ j set. elim (cases_eq j s) [
    | inl e ↦ λ none. let both : Some v ≡ None = sym entry.value ∙ ap (value_in m) (sym e) ∙ none in cc
    | inr other ↦ so.only j (λ z. set (others j other ∙ z))
  ];
}

pub marked_whole : (m : ExceptionMap) (blocks : List ℕ) → IsMap m → MarkedSoFar m blocks (entries_in m) → MarksValues m blocks
marked_whole m blocks is so = record {
  room = so.room;
  set = λ s within set. so.only s (λ z. omega (arith, set, z));
  clear = λ s within clear. of s clear (value_in m s) refl;
}
  where
    of : (s : ℕ) → bit_of blocks s ≢ 1 → (o : Option ℕ) → value_in m s ≡ o → o ≡ None
    of s clear None e = refl
    of s clear (Some v) e = absurd (clear (of_value m is (λ p. bit_of blocks p.0 ≡ 1) so.marked s v e))

-- a slot more has a value
pub marks_more : (m n : ExceptionMap) (old new : List ℕ) (slot value : ℕ) → MarksValues m old → n.lg_k ≡ m.lg_k → length new ≡ length old → bit_of new slot ≡ 1 →
    ((j : ℕ) → j ≢ slot → bit_of new j ≡ bit_of old j) → value_in n slot ≡ Some value → ((j : ℕ) → j ≢ slot → value_in n j ≡ value_in m j) → MarksValues n new
marks_more m n old new slot value marks lg_k size same others has kept = record {
  room = omega (arith, marks.room, size, ap (λ k. 2 ^ k) lg_k);
  set = λ s within set. elim (cases_eq s slot) [
    | inl e ↦ λ none. let both : Some value ≡ None = sym has ∙ ap (value_in n) (sym e) ∙ none in cc
    | inr other ↦ λ none. marks.set s (omega (arith, within, ap (λ k. 2 ^ k) lg_k)) (sym (others s other) ∙ set) (sym (kept s other) ∙ none)
  ];
  clear = λ s within clear. elim (cases_eq s slot) [
    | inl e ↦ absurd (clear (ap (bit_of new) e ∙ same))
    | inr other ↦ kept s other ∙ marks.clear s (omega (arith, within, ap (λ k. 2 ^ k) lg_k)) (λ z. clear (others s other ∙ z))
  ];
}
