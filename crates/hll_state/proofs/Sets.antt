-- SPDX-License-Identifier: Apache-2.0
-- The sets of the raw coupons of lists.
use Rattle.std.proofs.Common.{◌≡◌, ℕ, true, ◌||◌, nat_eq, List, [], ◌∷◌, ◌++◌, take, drop, sym, ap, ◌∙◌, take-append-drop}
use Rattle.std.specs.Ordering.{nat_cmp, eq_by_cmp}
use Rattle.std.specs.Cmp.{nat_cmp_total, both_ways, unsigned_tied, eq_by_cmp_equiv}
use Rattle.std.specs.FinSet.{contains, insert, union, contains-from_list, contains-from_list_nat, contains-union}
use Rattle.std.specs.List.{Contains}
use Rattle.std.specs.List.Sorted.{IsPermutation}
use Rattle.std.proofs.lemmas.Bool.{eqb-true}
use Rattle.std.proofs.lemmas.List.Folds.{list_any-append}
use Rattle.std.proofs.lemmas.List.Sorted.{Contains-permutation, IsPermutation-sym}
use Rattle.std.proofs.lemmas.Map.Views.{list_any-from_Contains, Contains-from_any}
use Rattle.hll_coupons.specs.Pair.{set_of}
use Rattle.hll_coupons.proofs.Unions.{same_members, insert-union}

member-permutation : (xs ys : List ℕ) (q : ℕ) → IsPermutation xs ys → contains (set_of xs) q ≡ true → contains (set_of ys) q ≡ true
member-permutation xs ys q p e =
    let there : Contains xs q = Contains-from_any (λ x y t. (Equal-is_same x y t)) q xs (sym (contains-from_list nat_cmp_total xs q) ∙ e) in
    contains-from_list nat_cmp_total ys q ∙ list_any-from_Contains (eq_by_cmp_equiv nat_cmp_total) q ys (Contains-permutation xs ys q p there)
  where
    Equal-is_same : (x y : ℕ) → eq_by_cmp nat_cmp x y ≡ true → x ≡ y
    Equal-is_same x y t = eqb-true x y (sym (unsigned_tied x y) ∙ t)

pub set_of-permutation : (xs ys : List ℕ) → IsPermutation xs ys → set_of ys ≡ set_of xs
set_of-permutation xs ys p = same_members _ _
    (λ q. both_ways _ _ (member-permutation ys xs q (IsPermutation-sym xs ys p)) (member-permutation xs ys q p))

-- the set of two concatenated lists is the union of their sets
pub set_of-append : (xs ys : List ℕ) → set_of (xs ++ ys) ≡ union (set_of xs) (set_of ys)
set_of-append xs ys = same_members _ _ (λ q.
    contains-from_list_nat (xs ++ ys) q ∙ list_any-append (λ y. nat_eq y q) xs ys
    ∙ (λ i. sym (contains-from_list_nat xs q) i || sym (contains-from_list_nat ys q) i) ∙ sym (contains-union nat_cmp_total (set_of xs) (set_of ys) q))

pub set_of-split : (n : ℕ) (xs : List ℕ) → union (set_of (take n xs)) (set_of (drop n xs)) ≡ set_of xs
set_of-split n xs = sym (set_of-append (take n xs) (drop n xs)) ∙ ap set_of (take-append-drop n xs)

-- one more raw coupon
pub set_of-push : (xs : List ℕ) (w : ℕ) → set_of (xs ++ w ∷ []) ≡ insert (set_of xs) w
set_of-push xs w = set_of-append xs (w ∷ []) ∙ sym (insert-union (set_of xs) w)
