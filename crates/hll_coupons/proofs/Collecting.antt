-- SPDX-License-Identifier: Apache-2.0
-- Coupons of a list, one after the other.
use Rattle.hll_coupons.proofs.TableLemmas.{length-between}
use Rattle.std.proofs.Common.{◌≡◌, ℕ, ◌+◌, ◌≤◌, ◌<◌, ◌^◌, ◌||◌, nat_eq, true, false, cond, List, [], ◌∷◌, ◌++◌, length, All, refl, sym, ap, ◌∙◌, arith, inl, inr}
use Rattle.std.specs.Cmp.{nat_cmp_total}
use Rattle.std.specs.FinSet.{len, contains, insert, union, contains-from_list_nat, len-insert}
use Rattle.std.proofs.lemmas.Bool.{cases_Bool, or_left}
use Rattle.std.proofs.lemmas.List.Folds.{list_any-append}
use Rattle.std.proofs.lemmas.List.{append-nil}
use Rattle.std.proofs.lemmas.List.Elements.{All-head, All-tail}
use Rattle.hll_coupons.specs.Pair.{Pairs, set_of}
use Rattle.hll_coupons.specs.Table.{Table, coupons_in, coupons_of, IsTable}
use Rattle.hll_coupons.proofs.Members.{set_of-between, len-between, insert-member}
use Rattle.hll_coupons.proofs.Reading.{len-set_of-le}
use Rattle.hll_coupons.proofs.Unions.{contains_union, insert-union, len-insert_ge, len-insert_le, union_assoc, union_none}

-- what holds for all elements of a list holds for one between others
pub All-between : {X : Type 0} (P : X → Type 0) (xs zs : List X) (y : X) → All P (xs ++ y ∷ zs) → P y
All-between P [] zs y h = All-head P y zs h
All-between P (x ∷ xs) zs y h = All-between P xs zs y (All-tail P x (xs ++ y ∷ zs) h)

-- a longer list has at least the same number of members
len-longer : (xs ys : List ℕ) → len (set_of xs) ≤ len (set_of (xs ++ ys))
len-longer xs [] = let same : len (set_of (xs ++ [])) ≡ len (set_of xs) = ap (λ zs. len (set_of zs)) (append-nil xs) in omega (arith, same)
len-longer xs (y ∷ ys) =
    let more : len (set_of (xs ++ ys)) ≤ len (set_of (xs ++ y ∷ ys)) = rw (set_of-between xs ys y) (len-insert_ge (set_of (xs ++ ys)) y) in
    omega (arith, more, len-longer xs ys)

pub append-between : (xs ys : List ℕ) (c : ℕ) → (xs ++ c ∷ []) ++ ys ≡ xs ++ c ∷ ys
append-between [] ys c = refl
append-between (x ∷ xs) ys c = ap (λ zs. x ∷ zs) (append-between xs ys c)

-- a coupon that the others lack adds one member
pub len-with_new : (xs ys : List ℕ) (c : ℕ) → contains (set_of xs) c ≡ false → len (set_of xs) + 1 ≤ len (set_of (xs ++ c ∷ ys))
len-with_new xs ys c new =
    let front : len (set_of (xs ++ c ∷ [])) ≤ len (set_of (xs ++ c ∷ ys)) = rw (sym (append-between xs ys c)) (len-longer (xs ++ c ∷ []) ys) in
    let bare : len (set_of (xs ++ [])) ≡ len (set_of xs) = ap (λ zs. len (set_of zs)) (append-nil xs) in
    let more : len (set_of (xs ++ c ∷ [])) ≡ len (set_of (xs ++ [])) + 1 = len-between xs [] c (ap (λ zs. contains (set_of zs) c) (append-nil xs) ∙ new) in
    omega (arith, front, bare, more)

-- a table of eight buckets that has some of eight coupons has a free bucket for another
pub room_of_eight : (t : Table) (all xs ys : List ℕ) (c : ℕ) → IsTable t → t.lg_size ≡ 3 → coupons_of t ≡ set_of xs → all ≡ xs ++ c ∷ ys → len (set_of all) ≤ 8 →
    contains (coupons_of t) c ≡ false → length (coupons_in t.buckets) < 2 ^ t.lg_size
room_of_eight t all xs ys c table three is whole few new =
    let eight : 2 ^ t.lg_size ≡ 8 = ap (λ q. 2 ^ q) three in
    let more : len (set_of xs) + 1 ≤ len (set_of (xs ++ c ∷ ys)) = len-with_new xs ys c (ap (λ S. contains S c) (sym is) ∙ new) in
    omega (arith, eight, more, few, ap (λ zs. len (set_of zs)) whole, table.distinct, ap len is)

-- ---- with a set

-- the union after one more coupon of a list
pub union_after : (S : Pairs) (xs : List ℕ) (c : ℕ) → union S (set_of (xs ++ c ∷ [])) ≡ insert (union S (set_of xs)) c
union_after S xs c =
    ap (union S) (set_of-between xs [] c ∙ ap (λ zs. insert (set_of zs) c) (append-nil xs) ∙ insert-union (set_of xs) c)
    ∙ sym (union_assoc S (set_of xs) (set_of (c ∷ []))) ∙ sym (insert-union (union S (set_of xs)) c)

union_between : (S : Pairs) (xs ys : List ℕ) (c : ℕ) → union S (set_of (xs ++ c ∷ ys)) ≡ insert (union S (set_of (xs ++ ys))) c
union_between S xs ys c =
    ap (union S) (set_of-between xs ys c ∙ insert-union (set_of (xs ++ ys)) c)
    ∙ sym (union_assoc S (set_of (xs ++ ys)) (set_of (c ∷ []))) ∙ sym (insert-union (union S (set_of (xs ++ ys))) c)

-- a longer list has at least the same number of members together with those of a set
pub len-union_longer : (S : Pairs) (xs ys : List ℕ) → len (union S (set_of xs)) ≤ len (union S (set_of (xs ++ ys)))
len-union_longer S xs [] = let same : len (union S (set_of (xs ++ []))) ≡ len (union S (set_of xs)) = ap (λ zs. len (union S (set_of zs))) (append-nil xs) in omega (arith, same)
len-union_longer S xs (y ∷ ys) =
    let more : len (union S (set_of (xs ++ ys))) ≤ len (union S (set_of (xs ++ y ∷ ys))) = rw (union_between S xs ys y) (len-insert_ge (union S (set_of (xs ++ ys))) y) in
    omega (arith, more, len-union_longer S xs ys)

pub len-union_with : (S : Pairs) (xs ys : List ℕ) (c : ℕ) → len (union S (set_of (xs ++ c ∷ []))) ≤ len (union S (set_of (xs ++ c ∷ ys)))
len-union_with S xs ys c = rw (sym (append-between xs ys c)) (len-union_longer S (xs ++ c ∷ []) ys)

-- in a list without repetition a coupon is not among those before it
pub new_between : (xs ys : List ℕ) (c : ℕ) → len (set_of (xs ++ c ∷ ys)) ≡ length (xs ++ c ∷ ys) → contains (set_of xs) c ≡ false
new_between xs ys c distinct = elim (cases_Bool (contains (set_of xs) c)) [
  | inl t ↦
      let there : contains (set_of (xs ++ ys)) c ≡ true = contains-from_list_nat (xs ++ ys) c ∙ list_any-append (λ y. nat_eq y c) xs ys ∙ or_left _ _ (sym (contains-from_list_nat xs c) ∙ t) in
      let same : set_of (xs ++ c ∷ ys) ≡ set_of (xs ++ ys) = set_of-between xs ys c ∙ insert-member (set_of (xs ++ ys)) c there in
      absurd (omega (arith, distinct, ap len same, len-set_of-le (xs ++ ys), length-between xs ys c))
  | inr f ↦ f
]

-- the number of members together with those of a set: of no coupons, after a coupon in neither, after a coupon in the set
pub len-union_none : (S : Pairs) → len (union S (set_of [])) ≡ len S
len-union_none S = ap len (union_none S)

pub len-union_new : (S : Pairs) (xs ys : List ℕ) (c : ℕ) → len (set_of (xs ++ c ∷ ys)) ≡ length (xs ++ c ∷ ys) → contains S c ≡ false →
    len (union S (set_of (xs ++ c ∷ []))) ≡ len (union S (set_of xs)) + 1
len-union_new S xs ys c distinct new =
    let out : contains (union S (set_of xs)) c ≡ false = contains_union S (set_of xs) c ∙ ap (λ b. b || contains (set_of xs) c) new ∙ new_between xs ys c distinct in
    ap len (union_after S xs c) ∙ len-insert nat_cmp_total (union S (set_of xs)) c
    ∙ ap (λ b. cond b (len (union S (set_of xs))) (len (union S (set_of xs)) + 1)) out

pub len-union_old : (S : Pairs) (xs : List ℕ) (c : ℕ) → contains S c ≡ true → len (union S (set_of (xs ++ c ∷ []))) ≡ len (union S (set_of xs))
len-union_old S xs c old =
    let is_in : contains (union S (set_of xs)) c ≡ true = contains_union S (set_of xs) c ∙ or_left _ _ old in
    ap len (union_after S xs c ∙ insert-member (union S (set_of xs)) c is_in)

pub len-union_most : (S : Pairs) (xs : List ℕ) → len (union S (set_of xs)) ≤ len S + length xs
len-union_most S [] = omega (arith, len-union_none S)
len-union_most S (x ∷ xs) =
    let one : len (union S (set_of (x ∷ xs))) ≤ len (union S (set_of xs)) + 1 = rw (union_between S [] xs x) (len-insert_le (union S (set_of xs)) x) in
    omega (arith, one, len-union_most S xs)

-- a prefix is no longer than the whole list
pub shorter : (xs ys : List ℕ) → length xs ≤ length (xs ++ ys)
shorter [] ys = omega arith
shorter (x ∷ xs) ys = omega (arith, shorter xs ys)
