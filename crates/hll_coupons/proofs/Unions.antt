-- SPDX-License-Identifier: Apache-2.0
-- Unions of sets of pairs, by their members.
use Rattle.std.proofs.Common.{◌≡◌, ℕ, ◌+◌, ◌≤◌, Bool, true, false, cond, ◌||◌, List, [], ◌∷◌, refl, sym, ap, ◌∙◌, arith, inl, inr}
use Rattle.std.specs.List.{list_any}
use Rattle.std.specs.Ordering.{nat_cmp, eq_by_cmp}
use Rattle.std.specs.Cmp.{nat_cmp_total}
use Rattle.std.proofs.lemmas.Bool.{cases_Bool, true≢false, or_left, or_right}
use Rattle.std.specs.FinSet.{empty, contains-empty, items, contains, contains-items, insert, contains-insert, len, len-insert, union, contains-union, from_list, contains-from_list, same_set, nat_cmp-IsAntisymmetric}
use Rattle.hll_coupons.specs.Pair.{Pairs, set_of}

pub or_assoc : (a b c : Bool) → ((a || b) || c) ≡ (a || (b || c))
or_assoc true b c = refl
or_assoc false b c = refl

or_swap : (a b c : Bool) → (a || (b || c)) ≡ (b || (a || c))
or_swap true true c = refl
or_swap true false c = refl
or_swap false b c = refl

pub or-false : (a : Bool) → (a || false) ≡ a
or-false true = refl
or-false false = refl

pub same_members : (S T : Pairs) → ((q : ℕ) → contains S q ≡ contains T q) → S ≡ T
same_members S T h = same_set nat_cmp_total nat_cmp-IsAntisymmetric S T h

pub contains_union : (S T : Pairs) (q : ℕ) → contains (union S T) q ≡ (contains S q || contains T q)
contains_union S T q = contains-union nat_cmp_total S T q

pub union_assoc : (S T U : Pairs) → union (union S T) U ≡ union S (union T U)
union_assoc S T U = same_members _ _ (λ q.
    contains_union (union S T) U q ∙ ap (λ b. b || contains U q) (contains_union S T q)
    ∙ or_assoc (contains S q) (contains T q) (contains U q)
    ∙ sym (contains_union S (union T U) q ∙ ap (λ b. contains S q || b) (contains_union T U q)))

abbrev with_all : Pairs → List ℕ → Pairs
with_all S [] = S
with_all S (c ∷ cs) = insert (with_all S cs) c

contains-with_all : (S : Pairs) (cs : List ℕ) (q : ℕ) → contains (with_all S cs) q ≡ (contains S q || list_any (eq_by_cmp nat_cmp q) cs)
contains-with_all S [] q = sym (or-false (contains S q))
contains-with_all S (c ∷ cs) q = contains-insert nat_cmp_total (with_all S cs) c q ∙ ap (λ b. eq_by_cmp nat_cmp q c || b) (contains-with_all S cs q) ∙ or_swap (eq_by_cmp nat_cmp q c) (contains S q) _

len_insert_le : (S : Pairs) (c : ℕ) → len S ≤ len (insert S c)
len_insert_le S c = rw (len-insert nat_cmp_total S c) (elim (contains S c) as (λ b. len S ≤ cond b (len S) (len S + 1)) [ true ↦ omega arith | false ↦ omega arith ])

len_with_all_le : (S : Pairs) (cs : List ℕ) → len S ≤ len (with_all S cs)
len_with_all_le S [] = omega arith
len_with_all_le S (c ∷ cs) = omega (arith, len_with_all_le S cs, len_insert_le (with_all S cs) c)

pub len_union_le : (S T : Pairs) → len S ≤ len (union S T)
len_union_le S T =
    let is : with_all S (items T) ≡ union S T = same_members _ _ (λ q. contains-with_all S (items T) q ∙ ap (λ b. contains S q || b) (sym (contains-items T q)) ∙ sym (contains_union S T q)) in
    omega (arith, len_with_all_le S (items T), ap len is)

-- a first pair and others are the set of all
pub from_list_cons : (c : ℕ) (cs : List ℕ) → from_list {R = nat_cmp} (c ∷ cs) ≡ union (from_list {R = nat_cmp} (c ∷ [])) (from_list {R = nat_cmp} cs)
from_list_cons c cs = same_members _ _ (λ q.
    contains-from_list nat_cmp_total (c ∷ cs) q
    ∙ sym (contains_union _ _ q ∙ (λ i. contains-from_list nat_cmp_total (c ∷ []) q i || contains-from_list nat_cmp_total cs q i)
    ∙ or_assoc (eq_by_cmp nat_cmp q c) false _))

pub union_none : (T : Pairs) → union T (from_list {R = nat_cmp} []) ≡ T
union_none T = same_members _ _ (λ q. contains_union T _ q ∙ ap (λ b. contains T q || b) (contains-from_list nat_cmp_total [] q) ∙ or-false (contains T q))

pub union-empty : (P : Pairs) → union empty P ≡ P
union-empty P = same_members (union empty P) P (λ q. contains_union empty P q ∙ ap (λ b. b || contains P q) (contains-empty nat_cmp q))

-- ---- empty sets

-- a set without members is empty
pub no_members : (P : Pairs) → ((c : ℕ) → contains P c ≡ true → ⊥) → P ≡ empty
no_members P none = same_members P empty (λ q. elim (cases_Bool (contains P q)) [ inl t ↦ absurd (none q t) | inr f ↦ f ∙ sym (contains-empty nat_cmp q) ])

-- the parts of an empty union are empty
pub union_left : (P Q : Pairs) → union P Q ≡ empty → P ≡ empty
union_left P Q e = no_members P (λ c h. true≢false (sym (contains_union P Q c ∙ or_left (contains P c) (contains Q c) h) ∙ ap (λ S. contains S c) e ∙ contains-empty nat_cmp c))

pub union_right : (P Q : Pairs) → union P Q ≡ empty → Q ≡ empty
union_right P Q e = no_members Q (λ c h. true≢false (sym (contains_union P Q c ∙ or_right (contains P c) (contains Q c) h) ∙ ap (λ S. contains S c) e ∙ contains-empty nat_cmp c))

-- ---- one pair more

pub set_of-nil : set_of [] ≡ empty
set_of-nil = same_members (set_of []) empty (λ q. contains-from_list nat_cmp_total [] q ∙ sym (contains-empty nat_cmp q))

or-false-last : (a b : Bool) → (b || a) ≡ (a || (b || false))
or-false-last true true = refl
or-false-last true false = refl
or-false-last false true = refl
or-false-last false false = refl

-- inserting a coupon is a union with it
pub insert-union : (S : Pairs) (c : ℕ) → insert S c ≡ union S (set_of (c ∷ []))
insert-union S c = same_members (insert S c) (union S (set_of (c ∷ []))) (λ q.
    contains-insert nat_cmp_total S c q ∙ or-false-last (contains S q) (eq_by_cmp nat_cmp q c)
    ∙ sym (contains_union S (set_of (c ∷ [])) q ∙ ap (λ b. contains S q || b) (contains-from_list nat_cmp_total (c ∷ []) q)))

pub len-insert_le : (S : Pairs) (c : ℕ) → len (insert S c) ≤ len S + 1
len-insert_le S c = rw (len-insert nat_cmp_total S c) (elim (contains S c) as (λ b. cond b (len S) (len S + 1) ≤ len S + 1) [ true ↦ omega arith | false ↦ omega arith ])

pub len-insert_ge : (S : Pairs) (c : ℕ) → len S ≤ len (insert S c)
len-insert_ge S c = rw (len-insert nat_cmp_total S c) (elim (contains S c) as (λ b. len S ≤ cond b (len S) (len S + 1)) [ true ↦ omega arith | false ↦ omega arith ])
