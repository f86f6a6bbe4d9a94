-- SPDX-License-Identifier: Apache-2.0
-- The stage of a count at each lg_k.
use Rattle.std.proofs.Common.{◌≡◌, ℕ, ◌+◌, ◌-◌, ◌*◌, ◌^◌, ◌≤◌, zero, suc, Bool, true, false, cond, ◌&&◌, eqb, leb, List, [], ◌∷◌, Some, None, refl, sym, ap, ◌∙◌, arith, inl, inr}
use Rattle.std.specs.Prelude.{find}
use Rattle.std.specs.List.{range_with_len}
use Rattle.std.proofs.lemmas.Bool.{leb-true, le-leb, lt-leb, cases_Bool, and_parts, and_from, and_left, cond-true, cond-false, false_from_ne_true, true≢false}
use Rattle.hll_sketch.specs.Stage.{sizes, can_hold, stage}

-- a size that does not pass is skipped
pub find_later : (f : ℕ → Bool) (c m n : ℕ) → m ≡ suc n → f c ≡ false → find f (range_with_len c m) ≡ find f (range_with_len (c + 1) n)
find_later f c m n e fails = ap (λ k. find f (range_with_len c k)) e ∙ cond-false (f c) (Some c) (find f (range_with_len (c + 1) n)) fails

-- a size that holds more holds fewer
pub holds_fewer : (q n m : ℕ) → n ≤ m → can_hold q m ≡ true → can_hold q n ≡ true
holds_fewer q n m le =
    elim (eqb q 3) as (λ b. cond b (leb m 7) (leb (4 * m) (3 * 2 ^ q)) ≡ true → cond b (leb n 7) (leb (4 * n) (3 * 2 ^ q)) ≡ true) [
      | true ↦ λ h. le-leb n 7 (omega (arith, leb-true m 7 h))
      | false ↦ λ h. le-leb (4 * n) (3 * 2 ^ q) (omega (arith, leb-true (4 * m) (3 * 2 ^ q) h))
    ]

-- a list that rises, from b on
abbrev Rising : ℕ → List ℕ → Type 0
Rising b [] = Unit {0}
Rising b (x ∷ xs) = (b ≤ x) × Rising (x + 1) xs

Rising-range : (b a c : ℕ) → b ≤ a → Rising b (range_with_len a c)
Rising-range b a zero h = tt
Rising-range b a (suc c) h = (h, Rising-range (a + 1) (a + 1) c (omega arith))

Rising-sizes : (k : ℕ) → Rising 0 (sizes k)
Rising-sizes k = (omega arith, Rising-range 4 5 (k - 7) (omega arith))

find_from : (f : ℕ → Bool) (b : ℕ) (xs : List ℕ) (q : ℕ) → Rising b xs → find f xs ≡ Some q → b ≤ q
find_from f b [] q r e = cc
find_from f b (x ∷ xs) q r e = elim (f x) as (λ t. cond t (Some x) (find f xs) ≡ Some q → b ≤ q) [
  | true ↦ λ e. let same : x ≡ q = cc in omega (arith, r.0)
  | false ↦ λ e. omega (arith, find_from f (x + 1) xs q r.1 e, r.0)
] e

find_agree : (f g : ℕ → Bool) (b : ℕ) (xs : List ℕ) → Rising b xs → ((y : ℕ) → b ≤ y → f y ≡ g y) → find f xs ≡ find g xs
find_agree f g b [] r h = refl
find_agree f g b (x ∷ xs) r h = λ i. cond (h x r.0 i) (Some x) (find_agree f g (x + 1) xs r.1 (λ y l. h y (omega (arith, r.0))) i)

abbrev fits : ℕ → ℕ → ℕ → Bool
fits p n q = leb p q && can_hold q n

fits_fewer : (p n m q : ℕ) → n ≤ m → fits p n q ≡ false → fits p m q ≡ false
fits_fewer p n m q le none = false_from_ne_true (fits p m q) (λ yes'.
    let parts = and_parts (leb p q) (can_hold q m) yes' in
    true≢false (sym (and_from (leb p q) (can_hold q n) parts.0 (holds_fewer q n m le parts.1)) ∙ none))

again : (b p q n m : ℕ) (xs : List ℕ) → Rising b xs → n ≤ m → find (fits p n) xs ≡ Some q → find (fits q m) xs ≡ find (fits p m) xs
again b p q n m [] r le e = refl
again b p q n m (x ∷ xs) r le e = elim (cases_Bool (fits p n x)) [
  | inl here ↦
      let found : Some x ≡ Some q = sym (cond-true (fits p n x) (Some x) (find (fits p n) xs) here) ∙ e in
      let same : x ≡ q = cc in
      let start : p ≤ x = leb-true p x (and_parts (leb p x) (can_hold x n) here).0 in
      find_agree (fits q m) (fits p m) x (x ∷ xs) (omega arith, r.1) (λ y l.
      ap (λ t. t && can_hold y m) (le-leb q y (omega arith) ∙ sym (le-leb p y (omega arith))))
  | inr later ↦
      let rest : find (fits p n) xs ≡ Some q = sym (cond-false (fits p n x) (Some x) (find (fits p n) xs) later) ∙ e in
      let past : x + 1 ≤ q = find_from (fits p n) (x + 1) xs q r.1 rest in
      cond-false (fits q m x) _ _ (and_left (leb q x) (can_hold x m) (lt-leb q x (omega arith)))
      ∙ again (x + 1) p q n m xs r.1 le rest
      ∙ sym (cond-false (fits p m x) _ _ (fits_fewer p n m x le later))
]

none_more : (p n m : ℕ) (xs : List ℕ) → n ≤ m → find (fits p n) xs ≡ None → find (fits p m) xs ≡ None
none_more p n m [] le e = refl
none_more p n m (x ∷ xs) le e = elim (cases_Bool (fits p n x)) [
  | inl here ↦ let no : Some x ≡ None = sym (cond-true (fits p n x) (Some x) (find (fits p n) xs) here) ∙ e in cc
  | inr later ↦ cond-false (fits p m x) _ _ (fits_fewer p n m x le later)
      ∙ none_more p n m xs le (sym (cond-false (fits p n x) (Some x) (find (fits p n) xs) later) ∙ e)
]

-- from the size that n pairs need, m pairs get the size that they need from the start
pub stage_again : (k p q n m : ℕ) → n ≤ m → stage k p n ≡ Some q → stage k q m ≡ stage k p m
stage_again k p q n m le e = again 0 p q n m (sizes k) (Rising-sizes k) le e

pub stage_none : (k p n m : ℕ) → n ≤ m → stage k p n ≡ None → stage k p m ≡ None
stage_none k p n m le e = none_more p n m (sizes k) le e

-- ---- from a list on
