-- SPDX-License-Identifier: Apache-2.0
-- Sorted numbers, each kept once, and a table that has them in its first buckets.
use Rattle.std.proofs.Common.{◌≡◌, ℕ, suc, ◌-◌, ◌^◌, ◌<◌, ◌≤◌, Bool, true, false, ◌||◌, List, [], ◌∷◌, ◌++◌, All, length, take, replicate, nat_eq, refl, sym, ◌∙◌, ap, subst, arith, inl, inr}
use Rattle.std.specs.Ordering.{nat_cmp}
use Rattle.std.specs.Cmp.{nat_cmp_total}
use Rattle.std.specs.FinSet.{len, contains-from_list_nat, same_set, nat_cmp-IsAntisymmetric}
use Rattle.std.specs.List.{dedup, dedup_from}
use Rattle.std.specs.List.Sorted.{IsSorted, IsPermutation, IsStrictlyIncreasing, IsNonDecreasingBy}
use Rattle.std.proofs.lemmas.Bool.{eqb-true, eq-eqb, true≢false, cases_Bool, cond-true, cond-false}
use Rattle.std.proofs.lemmas.List.{length-append, length-replicate, take_all}
use Rattle.std.proofs.lemmas.List.Elements.{All-weaker}
use Rattle.std.proofs.lemmas.List.Filters.{All-dedup}
use Rattle.std.proofs.lemmas.List.Sorted.{IsNonDecreasingBy-from_sort, All-permutation}
use Rattle.hll_coupons.specs.Pair.{IsPair, set_of, value_of}
use Rattle.hll_coupons.specs.Coupons.{IsAscending}
use Rattle.hll_coupons.specs.Table.{IsTable, coupons_in}
use Rattle.hll_coupons.proofs.Ascending.{has, set_of-permutation, distinct-ascending}
use Rattle.hll_coupons.proofs.Merging.{increasing_more}
use Rattle.hll_coupons.proofs.Buckets.{coupons_in-front}
use Rattle.hll_coupons.proofs.Reading.{coupons_in-coupons}

-- numbers that don't decrease
abbrev Rises : List ℕ → Type 0
Rises xs = IsNonDecreasingBy (λ x. x) xs

after : (x y : ℕ) (xs : List ℕ) → Rises (x ∷ y ∷ xs) → Rises (y ∷ xs)
after x y xs up i j d le lt = up (suc i) (suc j) d (omega (arith, le)) (omega (arith, lt))

one : (k : ℕ) → IsStrictlyIncreasing (k ∷ [])
one k i within = absurd (omega (arith, within))

twice : (b c : Bool) → (b || (b || c)) ≡ (b || c)
twice true c = refl
twice false c = refl

module _ (E : ℕ → ℕ → Bool) (is : (x y : ℕ) → E x y ≡ nat_eq x y) where
  same : (x y : ℕ) → E x y ≡ true → x ≡ y
  same x y e = eqb-true x y (sym (is x y) ∙ e)

  apart : (x y : ℕ) → E x y ≡ false → x ≡ y → ⊥
  apart x y e h = true≢false (sym (eq-eqb x y h) ∙ sym (is x y) ∙ e)

  -- ---- members

  has-from : (k : ℕ) (xs : List ℕ) (q : ℕ) → has (dedup_from E k xs) q ≡ has (k ∷ xs) q
  has-from k [] q = refl
  has-from k (x ∷ xs) q = elim (cases_Bool (E x k)) [
    | inl t ↦
        let e : x ≡ k = same x k t in
        ap (λ ys. has ys q) (cond-true (E x k) (dedup_from E k xs) (k ∷ dedup_from E x xs) t) ∙ has-from k xs q
        ∙ sym (ap (λ z. nat_eq k q || (nat_eq z q || has xs q)) e ∙ twice (nat_eq k q) (has xs q))
    | inr f ↦
        ap (λ ys. has ys q) (cond-false (E x k) (dedup_from E k xs) (k ∷ dedup_from E x xs) f) ∙ ap (λ b. nat_eq k q || b) (has-from x xs q)
  ]

  has-dedup : (xs : List ℕ) (q : ℕ) → has (dedup E xs) q ≡ has xs q
  has-dedup [] q = refl
  has-dedup (x ∷ xs) q = has-from x xs q

  -- ---- order

  -- the numbers that are kept begin with the first number, and ascend
  abbrev Climbs : ℕ → List ℕ → Type 0
  Climbs k ys = (rest : List ℕ) × (ys ≡ k ∷ rest) × IsStrictlyIncreasing (k ∷ rest)

  climbs : (k : ℕ) (xs : List ℕ) → Rises (k ∷ xs) → Climbs k (dedup_from E k xs)
  climbs k [] up = ([], refl, one k)
  climbs k (x ∷ xs) up = elim (cases_Bool (E x k)) [
    | inl t ↦
        let more : Climbs k (dedup_from E k xs) = climbs k xs (subst (λ z. Rises (z ∷ xs)) (same x k t) (after k x xs up)) in
        (more.0, cond-true (E x k) (dedup_from E k xs) (k ∷ dedup_from E x xs) t ∙ more.1, more.2)
    | inr f ↦
        let more : Climbs x (dedup_from E x xs) = climbs x xs (after k x xs up) in
        let least : k ≤ x = up 0 1 0 (omega arith) (omega arith) in
        let below : k < x = omega (arith, least, apart x k f) in
        (x ∷ more.0, cond-false (E x k) (dedup_from E k xs) (k ∷ dedup_from E x xs) f ∙ ap (λ ys. k ∷ ys) more.1, (increasing_more k x more.0).1 (below, more.2))
  ]

  increasing-dedup : (xs : List ℕ) → Rises xs → IsStrictlyIncreasing (dedup E xs)
  increasing-dedup [] up = λ i within. absurd (omega (arith, within))
  increasing-dedup (x ∷ xs) up = let c = climbs x xs up in subst IsStrictlyIncreasing (sym c.1) c.2

  -- a sorted list with each number kept once
  pub once_of_sorted : (all sorted kept : List ℕ) → IsPermutation all sorted → IsSorted nat_cmp sorted → kept ≡ dedup E sorted → IsAscending kept (set_of all)
  once_of_sorted all sorted kept p up e = record {
    increasing = subst IsStrictlyIncreasing (sym e) (increasing-dedup sorted (IsNonDecreasingBy-from_sort (λ x. x) sorted up));
    members = ap set_of e ∙ same_set nat_cmp_total nat_cmp-IsAntisymmetric _ _
        (λ q. contains-from_list_nat (dedup E sorted) q ∙ has-dedup sorted q ∙ sym (contains-from_list_nat sorted q)) ∙ set_of-permutation all sorted p;
  }

  pub pairs_of_sorted : (all sorted kept : List ℕ) → IsPermutation all sorted → kept ≡ dedup E sorted → All IsPair all → All IsPair kept
  pairs_of_sorted all sorted kept p e h = subst (All IsPair) (sym e) (All-dedup E IsPair sorted (All-permutation IsPair all sorted p h))

-- ---- a table of them

kept_all : (xs : List ℕ) → All IsPair xs → coupons_in xs ≡ xs
kept_all xs h = coupons_in-coupons xs (All-weaker IsPair (λ c. 1 ≤ value_of c) (λ c p. p.valued) xs h)

-- numbers that ascend, in the first buckets of a table
pub record IsTableFrom (lg : ℕ) (order buckets : List ℕ) : Type 0 where
  pub table : IsTable (record { lg_size = lg; buckets = buckets })
  pub order_is : coupons_in buckets ≡ order

pub table_from : (lg n m : ℕ) (order buckets : List ℕ) → IsStrictlyIncreasing order → All IsPair order → n ≡ 2 ^ lg → m ≡ length order → m < n → lg ≤ 26 → buckets ≡ take n order ++ replicate (n - m) 0
    → IsTableFrom lg order buckets
table_from lg n m order buckets up pairs size number room small is =
    let e : buckets ≡ order ++ replicate (n - m) 0 = is ∙ ap (λ ys. ys ++ replicate (n - m) 0) (take_all n order (omega (arith, room, number))) in
    let has_them : coupons_in buckets ≡ order = ap coupons_in e ∙ coupons_in-front order (n - m) ∙ kept_all order pairs in
    record {
      table = record {
        small = small;
        size = ap length e ∙ omega (arith, length-append order (replicate (n - m) 0), length-replicate {A = ℕ} (n - m) 0, room, number, size);
        distinct = ap (λ xs. len (set_of xs)) has_them ∙ distinct-ascending order up ∙ sym (ap length has_them);
        valued = subst (All IsPair) (sym has_them) pairs;
      };
      order_is = has_them;
    }
