-- SPDX-License-Identifier: Apache-2.0
-- What a list has, what a search through it finds, and the set of its images.
use Rattle.std.proofs.Common.{◌≡◌, ℕ, ◌+◌, ◌<◌, Bool, true, false, cond, List, [], ◌∷◌, Some, None, length, get_or, zero, suc, map, refl, sym, ap, ◌∙◌, arith, inl, inr}
use Rattle.std.specs.Prelude.{find}
use Rattle.std.specs.List.{list_any}
use Rattle.std.specs.Ordering.{nat_cmp, eq_by_cmp}
use Rattle.std.specs.Cmp.{nat_cmp_total}
use Rattle.std.specs.FinSet.{contains, len, len-insert, contains-from_list}
use Rattle.std.proofs.lemmas.Bool.{cases_Bool, or_cases, or_left, or_right, cond-true, cond-false, true≢false}
use Rattle.hll_coupons.specs.Pair.{set_of}
use Rattle.hll_coupons.proofs.Greatest.{same_raw_coupon, itself}

abbrev pub has : ℕ → List ℕ → Bool
has q xs = list_any (eq_by_cmp nat_cmp q) xs

-- the members of its set
pub contains-has : (xs : List ℕ) (q : ℕ) → contains (set_of xs) q ≡ has q xs
contains-has xs q = contains-from_list nat_cmp_total xs q

pub has-head : (x : ℕ) (xs : List ℕ) → has x (x ∷ xs) ≡ true
has-head x xs = or_left (eq_by_cmp nat_cmp x x) (has x xs) (itself x x refl)

pub has-tail : (q x : ℕ) (xs : List ℕ) → has q xs ≡ true → has q (x ∷ xs) ≡ true
has-tail q x xs h = or_right (eq_by_cmp nat_cmp q x) (has q xs) h

-- the element at each index
pub has-at : (xs : List ℕ) (i : ℕ) → i < length xs → has (get_or xs i 0) xs ≡ true
has-at [] i h = absurd (omega arith)
has-at (x ∷ xs) zero h = has-head x xs
has-at (x ∷ xs) (suc i) h = has-tail (get_or xs i 0) x xs (has-at xs i (omega arith))

-- each member is at some index
pub at_index : (xs : List ℕ) (q : ℕ) → has q xs ≡ true → (i : ℕ) × (i < length xs) × (get_or xs i 0 ≡ q)
at_index [] q h = absurd (true≢false (sym h))
at_index (x ∷ xs) q h = elim (or_cases (eq_by_cmp nat_cmp q x) (has q xs) h) [
  | inl e ↦ (0, omega arith, sym (same_raw_coupon q x e))
  | inr l ↦ let r = at_index xs q l in (suc r.0, omega (arith, r.1), r.2)
]

-- ---- a search

-- the first that passes is one that passes, and there is one if any passes
pub finds : (f : ℕ → Bool) (xs : List ℕ) (c : ℕ) → find f xs ≡ Some c → (has c xs ≡ true) × (f c ≡ true)
finds f [] c e = cc
finds f (x ∷ xs) c e = elim (cases_Bool (f x)) [
  | inl t ↦
      let at : Some x ≡ Some c = sym (cond-true (f x) (Some x) (find f xs) t) ∙ e in
      let same : c ≡ x = cc in
      (or_left (eq_by_cmp nat_cmp c x) (has c xs) (itself c x same), ap f same ∙ t)
  | inr n ↦ let r = finds f xs c (sym (cond-false (f x) (Some x) (find f xs) n) ∙ e) in (has-tail c x xs r.0, r.1)
]

pub finds_none : (f : ℕ → Bool) (xs : List ℕ) (c : ℕ) → find f xs ≡ None → has c xs ≡ true → f c ≡ true → ⊥
finds_none f [] c e h t = true≢false (sym h)
finds_none f (x ∷ xs) c e h t = elim (cases_Bool (f x)) [
  | inl y ↦ let at : Some x ≡ None = sym (cond-true (f x) (Some x) (find f xs) y) ∙ e in cc
  | inr n ↦ elim (or_cases (eq_by_cmp nat_cmp c x) (has c xs) h) [
    | inl s ↦ true≢false (sym t ∙ ap f (same_raw_coupon c x s) ∙ n)
    | inr l ↦ finds_none f xs c (sym (cond-false (f x) (Some x) (find f xs) n) ∙ e) l t
  ]
]

-- ---- images

pub has-map : (f : ℕ → ℕ) (xs : List ℕ) (c : ℕ) → has c xs ≡ true → has (f c) (map f xs) ≡ true
has-map f [] c h = h
has-map f (x ∷ xs) c h = elim (or_cases (eq_by_cmp nat_cmp c x) (has c xs) h) [
  | inl e ↦ or_left (eq_by_cmp nat_cmp (f c) (f x)) (has (f c) (map f xs)) (itself (f c) (f x) (ap f (same_raw_coupon c x e)))
  | inr l ↦ or_right (eq_by_cmp nat_cmp (f c) (f x)) (has (f c) (map f xs)) (has-map f xs c l)
]

-- a member with this image
pub record From (f : ℕ → ℕ) (xs : List ℕ) (q : ℕ) : Type 0 where
  pub member : ℕ
  pub there : has member xs ≡ true
  pub is : q ≡ f member

pub has-from_map : (f : ℕ → ℕ) (xs : List ℕ) (q : ℕ) → has q (map f xs) ≡ true → From f xs q
has-from_map f [] q h = absurd (true≢false (sym h))
has-from_map f (x ∷ xs) q h = elim (or_cases (eq_by_cmp nat_cmp q (f x)) (has q (map f xs)) h) [
  | inl e ↦ record { member = x; there = has-head x xs; is = same_raw_coupon q (f x) e }
  | inr l ↦ let r : From f xs q = has-from_map f xs q l in record { member = r.member; there = has-tail r.member x xs r.there; is = r.is }
]

-- no two members have the same image
abbrev pub Apart : (ℕ → ℕ) → List ℕ → Type 0
Apart f xs = (c d : ℕ) → has c xs ≡ true → has d xs ≡ true → f c ≡ f d → c ≡ d

-- then the number of images is the number of members
pub len-map : (f : ℕ → ℕ) (xs : List ℕ) → Apart f xs → len (set_of (map f xs)) ≡ len (set_of xs)
len-map f [] apart = refl
len-map f (x ∷ xs) apart =
    let rest : Apart f xs = λ c d hc hd e. apart c d (has-tail c x xs hc) (has-tail d x xs hd) e in
    let same : has (f x) (map f xs) ≡ has x xs = both (has (f x) (map f xs)) (has x xs)
    (λ h. let r : From f xs (f x) = has-from_map f xs (f x) h in
    let e : r.member ≡ x = apart r.member x (has-tail r.member x xs r.there) (has-head x xs) (sym r.is) in
    ap (λ z. has z xs) (sym e) ∙ r.there)
    (has-map f xs x) in
    let known : contains (set_of (map f xs)) (f x) ≡ contains (set_of xs) x = contains-has (map f xs) (f x) ∙ same ∙ sym (contains-has xs x) in
    len-insert nat_cmp_total (set_of (map f xs)) (f x)
    ∙ (λ i. cond (known i) (len-map f xs rest i) (len-map f xs rest i + 1))
    ∙ sym (len-insert nat_cmp_total (set_of xs) x)
  where
    both : (a b : Bool) → (a ≡ true → b ≡ true) → (b ≡ true → a ≡ true) → a ≡ b
    both true b f g = sym (f refl)
    both false true f g = g refl
    both false false f g = refl
