-- SPDX-License-Identifier: Apache-2.0
-- Adding the coupons of a list to those of a set.
use Rattle.std.proofs.Common.{◌≡◌, ℕ, ◌+◌, ◌≤◌, ◌<◌, ◌||◌, ◌≢◌, Bool, true, false, not, cond, nat_eq, nat_lt, zero, suc, List, [], ◌∷◌, ◌++◌, length, get_or, Result, Ok, Err, refl, sym, ap, ◌∙◌, arith, inl, inr}
use mir.Val.{bool_byte}
use Rattle.std.specs.Cmp.{nat_cmp_total}
use Rattle.std.specs.FinSet.{contains, insert, len, union, len-insert, contains-from_list_nat}
use Rattle.std.specs.List.{list_any}
use Rattle.std.specs.List.Sorted.{IsBinarySearchResult, IsStrictlyIncreasing}
use Rattle.std.specs.Ordering.{nat_cmp}
use Rattle.std.specs.Result.{is_ok}
use borrow.Author.Tests.{ltb-false, ltb-true}
use Rattle.std.proofs.lemmas.Bool.{cases_Bool, eqb-true, eq-eqb, or_left, true≢false}
use Rattle.std.proofs.lemmas.List.Folds.{list_any-append}
use Rattle.std.proofs.lemmas.List.Kept.{AllPairs-from_increasing}
use Rattle.std.proofs.lemmas.List.Sorted.{searched}
use Rattle.hll_coupons.specs.Pair.{Pairs, set_of}
use Rattle.hll_coupons.specs.Table.{Table, IsTable, coupons_in, coupons_of}
use Rattle.hll_coupons.proofs.Collecting.{len-union_new, len-union_old, len-union_with, new_between, union_after}
use Rattle.hll_coupons.proofs.Members.{insert-member}
use Rattle.hll_coupons.proofs.Unions.{contains_union, same_members}

-- ---- what a binary search says

-- a number of the list is in a bucket, and a number in a bucket is one of the list
record StandsAt (xs : List ℕ) (c : ℕ) : Type 0 where
  bucket : ℕ
  within : bucket < length xs
  is : get_or xs bucket 0 ≡ c

stands_at : (xs : List ℕ) (c : ℕ) → list_any (λ y. nat_eq y c) xs ≡ true → StandsAt xs c
stands_at [] c any = absurd (true≢false (sym any))
stands_at (x ∷ xs) c any = elim (cases_Bool (nat_eq x c)) [
  | inl same ↦ record { bucket = 0; within = omega arith; is = eqb-true x c same }
  | inr other ↦
      let at = stands_at xs c (ap (λ b. b || list_any (λ y. nat_eq y c) xs) (sym other) ∙ any) in
      record { bucket = suc at.bucket; within = omega (arith, at.within); is = at.is }
]

stands_in : (xs : List ℕ) (c i : ℕ) → i < length xs → get_or xs i 0 ≡ c → list_any (λ y. nat_eq y c) xs ≡ true
stands_in [] c i within is = elim within [ ]
stands_in (x ∷ xs) c zero within is = or_left _ _ (eq-eqb x c is)
stands_in (x ∷ xs) c (suc i) within is = elim (nat_eq x c) as (λ b. (b || list_any (λ y. nat_eq y c) xs) ≡ true) [ true ↦ refl | false ↦ stands_in xs c i (omega (arith, within)) is ]

-- an increasing list doesn't decrease
rises : (xs : List ℕ) → IsStrictlyIncreasing xs → (i j : ℕ) → i ≤ j → j < length xs → get_or xs i 0 ≤ get_or xs j 0
rises xs up i j le within = elim (cases_Bool (nat_eq i j)) [
  | inl same ↦ let e : i ≡ j = eqb-true i j same in omega (arith, ap (λ k. get_or xs k 0) e)
  | inr other ↦
      let differ : i ≢ j = λ e. true≢false (sym (eq-eqb i j e) ∙ other) in
      omega (arith, AllPairs-from_increasing xs up i j 0 (omega (arith, le, differ)) within)
]

pub among : (own : List ℕ) (c : ℕ) (r : Result ℕ ℕ) → IsStrictlyIncreasing own → IsBinarySearchResult (λ y. nat_cmp y c) own r → is_ok r ≡ contains (set_of own) c
among own c (Ok i) up found =
    let at = searched own c (Ok i) found (rises own up) in
    sym (contains-from_list_nat own c ∙ stands_in own c i at.0 at.1)
among own c (Err i) up lacks =
    let around = searched own c (Err i) lacks (rises own up) in
    sym (contains-from_list_nat own c ∙ elim (cases_Bool (list_any (λ y. nat_eq y c) own)) [
      | inl any ↦
          let at = stands_at own c any in
          absurd (elim (cases_Bool (nat_lt at.bucket i)) [
            | inl before ↦ omega (arith, at.is, around.1 at.bucket (ltb-true at.bucket i before))
            | inr after ↦ omega (arith, at.is, around.2 at.bucket (ltb-false at.bucket i after) at.within)
          ])
      | inr none ↦ none
    ])

-- ---- one coupon more

pub at_most_one : (b : Bool) → bool_byte b ≤ 1
at_most_one true = omega arith
at_most_one false = omega arith

-- the count after one more coupon, which counts if the set doesn't have it
pub count_more : (S : Pairs) (xs ys : List ℕ) (c n m : ℕ) (old : Bool) → len (set_of (xs ++ c ∷ ys)) ≡ length (xs ++ c ∷ ys) → n ≡ len (union S (set_of xs)) → old ≡ contains S c →
    m ≡ n + bool_byte (not old) → m ≡ len (union S (set_of (xs ++ c ∷ [])))
count_more S xs ys c n m old distinct count is more = elim (cases_Bool (contains S c)) [
  | inl there ↦ omega (arith, count, more, ap (λ b. bool_byte (not b)) (is ∙ there), len-union_old S xs c there)
  | inr new ↦ omega (arith, count, more, ap (λ b. bool_byte (not b)) (is ∙ new), len-union_new S xs ys c distinct new)
]

-- a coupon of the list that the set lacks is also not among the coupons before it
pub lacking : (S : Pairs) (xs ys : List ℕ) (c : ℕ) → len (set_of (xs ++ c ∷ ys)) ≡ length (xs ++ c ∷ ys) → contains S c ≡ false → contains (union S (set_of xs)) c ≡ false
lacking S xs ys c distinct new = contains_union S (set_of xs) c ∙ ap (λ b. b || contains (set_of xs) c) new ∙ new_between xs ys c distinct

-- a table with at most all of these coupons has an empty bucket for a new one
pub bucket_left : (S : Pairs) (xs ys : List ℕ) (c : ℕ) (t : Table) (m : ℕ) → IsTable t → coupons_of t ≡ union S (set_of xs) → len (union S (set_of (xs ++ c ∷ ys))) ≤ m →
    contains (coupons_of t) c ≡ false → length (coupons_in t.buckets) < m
bucket_left S xs ys c t m table members room new =
    let more : len (insert (union S (set_of xs)) c) ≡ len (union S (set_of xs)) + 1 =
    len-insert nat_cmp_total (union S (set_of xs)) c ∙ ap (λ b. cond b (len (union S (set_of xs))) (len (union S (set_of xs)) + 1)) (ap (λ P. contains P c) (sym members) ∙ new) in
    omega (arith, table.distinct, ap len members, more, ap len (union_after S xs c), len-union_with S xs ys c, room)

-- the members after this coupon, whether it was put or the set had it
pub members_more : (S : Pairs) (xs : List ℕ) (c : ℕ) (old new : Pairs) → old ≡ union S (set_of xs) → new ≡ insert old c → new ≡ union S (set_of (xs ++ c ∷ []))
members_more S xs c old new before put = put ∙ ap (λ P. insert P c) before ∙ sym (union_after S xs c)

pub members_same : (S : Pairs) (xs : List ℕ) (c : ℕ) (now : Pairs) → now ≡ union S (set_of xs) → contains S c ≡ true → now ≡ union S (set_of (xs ++ c ∷ []))
members_same S xs c now before there =
    before ∙ sym (union_after S xs c ∙ insert-member (union S (set_of xs)) c (contains_union S (set_of xs) c ∙ or_left _ _ there))

-- members that a set already has from a list add nothing to it
same_or : (s a b : Bool) → ((s || a) || (a || b)) ≡ (s || (a || b))
same_or true a b = refl
same_or false true b = refl
same_or false false b = refl

pub absorbed : (S : Pairs) (xs ys all : List ℕ) → all ≡ xs ++ ys → union (union S (set_of xs)) (set_of all) ≡ union S (set_of all)
absorbed S xs ys all parts = same_members _ _ (λ q.
    let a : Bool = contains (set_of xs) q in
    let b : Bool = list_any (λ y. nat_eq y q) ys in
    let both : contains (set_of all) q ≡ (a || b) =
    ap (λ order. contains (set_of order) q) parts ∙ contains-from_list_nat (xs ++ ys) q ∙ list_any-append (λ y. nat_eq y q) xs ys ∙ ap (λ d. d || b) (sym (contains-from_list_nat xs q)) in
    contains_union (union S (set_of xs)) (set_of all) q ∙ (λ i. contains_union S (set_of xs) q i || both i) ∙ same_or (contains S q) a b
    ∙ ap (λ d. contains S q || d) (sym both) ∙ sym (contains_union S (set_of all) q))
