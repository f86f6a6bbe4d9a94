-- SPDX-License-Identifier: Apache-2.0
-- The members of a set in ascending order: there is one such list for each set, it has the length of the set, and
-- sorting makes it.
use Rattle.std.proofs.Common.{◌≡◌, ℕ, suc, ◌+◌, ◌<◌, ◌≤◌, Bool, true, false, cond, ◌||◌, List, [], ◌∷◌, ◌++◌, length, get_or, nat_eq, refl, sym, ◌∙◌, ap, subst, arith, inl, inr}
use Rattle.std.specs.Ordering.{nat_cmp, eq_by_cmp}
use Rattle.std.specs.Cmp.{nat_cmp_total, both_ways, unsigned_tied, eq_by_cmp_equiv}
use Rattle.std.specs.FinSet.{contains, len, len-empty, len-insert, contains-from_list, contains-from_list_nat, same_set, nat_cmp-IsAntisymmetric}
use Rattle.std.specs.List.{list_any, AllPairs, AllByRecursion, IsDistinct, Contains}
use Rattle.std.specs.List.Sorted.{IsSorted, IsPermutation, IsStrictlyIncreasing}
use Rattle.std.proofs.lemmas.Bool.{eqb-true, eq-eqb, true≢false, cases_Bool}
use Rattle.std.proofs.lemmas.List.Kept.{AllPairs-from_increasing}
use Rattle.std.proofs.lemmas.List.Sorted.{Contains-permutation, IsPermutation-sym, length_permutation, IsNonDecreasingBy-from_sort}
use Rattle.std.proofs.lemmas.Map.Keys.{IsStrictlyIncreasing-from_distinct}
use Rattle.std.proofs.lemmas.Map.Views.{list_any-from_Contains, Contains-from_any}
use Rattle.hll_coupons.specs.Pair.{Pairs, set_of}
use Rattle.hll_coupons.specs.Coupons.{coupon_bytes, IsAscending, WritesAscending}
use Rattle.hll_coupons.specs.Laws.{OneAscendingOrder}
use Rattle.hll_coupons.specs.Table.{Table, IsTable, coupons_in, coupons_of}
use Rattle.hll_coupons.proofs.Reading.{len-set_of-le}

-- ---- one order

-- each number is above x
abbrev AllAbove : ℕ → List ℕ → Type 0
AllAbove x [] = Unit {0}
AllAbove x (y ∷ ys) = (x < y) × AllAbove x ys

-- each number is below all that follow
abbrev Ascends : List ℕ → Type 0
Ascends [] = Unit {0}
Ascends (x ∷ xs) = AllAbove x xs × Ascends xs

all_above : (x : ℕ) (xs : List ℕ) → ((i : ℕ) → i < length xs → x < get_or xs i 0) → AllAbove x xs
all_above x [] h = tt
all_above x (y ∷ ys) h = (h 0 (omega arith), all_above x ys (λ i l. h (suc i) (omega (arith, l))))

ascends : (xs : List ℕ) → AllPairs (λ x y. x < y) xs → Ascends xs
ascends [] h = tt
ascends (x ∷ xs) h =
    (all_above x xs (λ i l. h 0 (suc i) 0 (omega arith) (omega (arith, l))), ascends xs (λ i j d l m. h (suc i) (suc j) d (omega (arith, l)) (omega (arith, m))))

-- whether q is one of the numbers
abbrev pub has : List ℕ → ℕ → Bool
has xs q = list_any (λ y. nat_eq y q) xs

member_above : (x q : ℕ) (xs : List ℕ) → AllAbove x xs → has xs q ≡ true → x < q
member_above x q [] a e = absurd (true≢false (sym e))
member_above x q (y ∷ ys) a e = decide (nat_eq y q) refl e (member_above x q ys a.1)
  where
    decide : (b : Bool) → nat_eq y q ≡ b → (b || has ys q) ≡ true → (has ys q ≡ true → x < q) → x < q
    decide true p e later = omega (arith, a.0, eqb-true y q p)
    decide false p e later = later e

not_above_itself : (x : ℕ) (xs : List ℕ) → AllAbove x xs → has xs x ≡ false
not_above_itself x xs a = elim (cases_Bool (has xs x)) [ inl e ↦ absurd (omega (arith, member_above x x xs a e)) | inr e ↦ e ]

-- the lesser of two numbers that a list has is the first of the list, or greater
first_below : (x q : ℕ) (xs : List ℕ) → AllAbove x xs → has (x ∷ xs) q ≡ true → x ≤ q
first_below x q xs a e = decide (nat_eq x q) refl e
  where
    decide : (b : Bool) → nat_eq x q ≡ b → (b || has xs q) ≡ true → x ≤ q
    decide true p e = omega (arith, eqb-true x q p)
    decide false p e = omega (arith, member_above x q xs a e)

has_first : (x : ℕ) (xs : List ℕ) → has (x ∷ xs) x ≡ true
has_first x xs = ap (λ b. b || has xs x) (eq-eqb x x refl)

same_list : (a b : List ℕ) → Ascends a → Ascends b → ((q : ℕ) → has a q ≡ has b q) → a ≡ b
same_list [] [] u v same = refl
same_list [] (y ∷ b) u v same = absurd (true≢false (sym (has_first y b) ∙ sym (same y)))
same_list (x ∷ a) [] u v same = absurd (true≢false (sym (has_first x a) ∙ same x))
same_list (x ∷ a) (y ∷ b) u v same =
    let up : x ≤ y = first_below x y a u.0 (same y ∙ has_first y b) in
    let down : y ≤ x = first_below y x b v.0 (sym (same x) ∙ has_first x a) in
    let first : x ≡ y = omega arith in
    λ i. first i ∷ same_list a b u.1 v.1 (λ q. tails q (nat_eq x q) refl first) i
  where
    tails : (q : ℕ) (t : Bool) → nat_eq x q ≡ t → x ≡ y → has a q ≡ has b q
    tails q true e first =
        let is : x ≡ q = eqb-true x q e in
        ap (has a) (sym is) ∙ not_above_itself x a u.0 ∙ sym (not_above_itself y b v.0) ∙ ap (has b) (sym first ∙ is)
    tails q false e first =
        ap (λ t. t || has a q) (sym e) ∙ same q ∙ ap (λ t. t || has b q) (ap (λ z. nat_eq z q) (sym first) ∙ e)

has-set : (order : List ℕ) (S : Pairs) (q : ℕ) → set_of order ≡ S → has order q ≡ contains S q
has-set order S q e = sym (contains-from_list_nat order q) ∙ ap (λ s. contains s q) e

pub one_ascending_order : OneAscendingOrder
one_ascending_order S a b u v =
    same_list a b (ascends a (AllPairs-from_increasing a u.increasing)) (ascends b (AllPairs-from_increasing b v.increasing))
    (λ q. has-set a S q u.members ∙ sym (has-set b S q v.members))

-- so bytes written in ascending order are a function of the set
pub written_once : (f : List ℕ → List ℕ) (S : Pairs) (a b : List ℕ) → WritesAscending f S a → WritesAscending f S b → a ≡ b
written_once f S a b u v = u.is ∙ ap f (one_ascending_order S u.order v.order u.ascending v.ascending) ∙ sym v.is

-- ---- its length

len-Ascends : (xs : List ℕ) → Ascends xs → len (set_of xs) ≡ length xs
len-Ascends [] h = len-empty nat_cmp
len-Ascends (x ∷ xs) h =
    let new : contains (set_of xs) x ≡ false = contains-from_list_nat xs x ∙ not_above_itself x xs h.0 in
    len-insert nat_cmp_total (set_of xs) x ∙ ap (λ b. cond b (len (set_of xs)) (len (set_of xs) + 1)) new ∙ omega (arith, len-Ascends xs h.1)

pub len-ascending : (order : List ℕ) (S : Pairs) → IsAscending order S → length order ≡ len S
len-ascending order S h = sym (len-Ascends order (ascends order (AllPairs-from_increasing order h.increasing))) ∙ ap len h.members

-- an image whose header is made of the number of coupons
pub written_after : (header_of : ℕ → List ℕ) (t : Table) (n : ℕ) (header bytes : List ℕ) → IsTable t → n ≡ length (coupons_in t.buckets) → header ≡ header_of n →
    WritesAscending (λ order. header ++ coupon_bytes order) (coupons_of t) bytes → WritesAscending (λ order. header_of (length order) ++ coupon_bytes order) (coupons_of t) bytes
written_after header_of t n header bytes table count is w =
    let number : n ≡ length w.order = count ∙ sym table.distinct ∙ sym (len-ascending w.order (coupons_of t) w.ascending) in
    record {
      order = w.order;
      ascending = w.ascending;
      is = w.is ∙ ap (λ h. h ++ coupon_bytes w.order) (is ∙ ap header_of number);
    }

-- ---- what a sort makes

new_first : (x : ℕ) (xs : List ℕ) → len (set_of (x ∷ xs)) ≡ length (x ∷ xs) → (contains (set_of xs) x ≡ false) × (len (set_of xs) ≡ length xs)
new_first x xs h = of (contains (set_of xs) x) refl (len-insert nat_cmp_total (set_of xs) x)
  where
    of : (b : Bool) → contains (set_of xs) x ≡ b → len (set_of (x ∷ xs)) ≡ cond b (len (set_of xs)) (len (set_of xs) + 1) → (contains (set_of xs) x ≡ false) × (len (set_of xs) ≡ length xs)
    of true e n = absurd (omega (arith, h, n, len-set_of-le xs))
    of false e n = (e, omega (arith, h, n))

turned : (x y : ℕ) → nat_eq y x ≡ false → nat_eq x y ≡ false
turned x y e = elim (cases_Bool (nat_eq x y)) [ inl t ↦ absurd (true≢false (sym (eq-eqb y x (sym (eqb-true x y t))) ∙ e)) | inr f ↦ f ]

or_false : (a b : Bool) → (a || b) ≡ false → (a ≡ false) × (b ≡ false)
or_false true b e = absurd (true≢false e)
or_false false b e = (refl, e)

others : (x : ℕ) (ys : List ℕ) → has ys x ≡ false → AllByRecursion (λ y. nat_eq x y ≡ false) ys
others x [] e = tt
others x (y ∷ ys) e = let h = or_false (nat_eq y x) (has ys x) e in (turned x y h.0, others x ys h.1)

distinct : (xs : List ℕ) → len (set_of xs) ≡ length xs → IsDistinct nat_eq xs
unfolding IsDistinct
distinct [] h = tt
distinct (x ∷ xs) h = let n = new_first x xs h in (others x xs (sym (contains-from_list_nat xs x) ∙ n.0), distinct xs n.1)

member-permutation : (xs ys : List ℕ) (q : ℕ) → IsPermutation xs ys → contains (set_of xs) q ≡ true → contains (set_of ys) q ≡ true
member-permutation xs ys q p e =
    let there : Contains xs q = Contains-from_any (λ x y t. (Equal-is_same x y t)) q xs (sym (contains-from_list nat_cmp_total xs q) ∙ e) in
    contains-from_list nat_cmp_total ys q ∙ list_any-from_Contains (eq_by_cmp_equiv nat_cmp_total) q ys (Contains-permutation xs ys q p there)
  where
    Equal-is_same : (x y : ℕ) → eq_by_cmp nat_cmp x y ≡ true → x ≡ y
    Equal-is_same x y t = eqb-true x y (sym (unsigned_tied x y) ∙ t)

pub set_of-permutation : (xs ys : List ℕ) → IsPermutation xs ys → set_of ys ≡ set_of xs
set_of-permutation xs ys p = same_set nat_cmp_total nat_cmp-IsAntisymmetric _ _
    (λ q. both_ways _ _ (member-permutation ys xs q (IsPermutation-sym xs ys p)) (member-permutation xs ys q p))

-- a sorted copy of distinct numbers
pub ascending_from_sort : (all copy ys : List ℕ) → copy ≡ all → len (set_of all) ≡ length all → IsPermutation copy ys → IsSorted nat_cmp ys → IsAscending ys (set_of all)
ascending_from_sort all copy ys same once p up =
    let q : IsPermutation all ys = subst (λ xs. IsPermutation xs ys) same p in
    record {
      increasing = IsStrictlyIncreasing-from_distinct ys (IsNonDecreasingBy-from_sort (λ x. x) ys up)
          (distinct ys (ap len (set_of-permutation all ys q) ∙ once ∙ sym (length_permutation all ys q)));
      members = set_of-permutation all ys q;
    }

-- ---- what the order of a list shows

-- numbers that ascend are distinct
pub distinct-ascending : (xs : List ℕ) → IsStrictlyIncreasing xs → len (set_of xs) ≡ length xs
distinct-ascending xs up = sym (len-ascending xs (set_of xs) (record { increasing = up; members = refl }))

-- a list is distinct if a permutation of it ascends
pub distinct-sorted : (all copy ys : List ℕ) → copy ≡ all → IsPermutation copy ys → IsStrictlyIncreasing ys → len (set_of all) ≡ length all
distinct-sorted all copy ys same p up =
    let q : IsPermutation all ys = subst (λ xs. IsPermutation xs ys) same p in
    ap len (sym (set_of-permutation all ys q)) ∙ distinct-ascending ys up ∙ length_permutation all ys q
