-- SPDX-License-Identifier: Apache-2.0
-- The set of the coupons of a list or of buckets.
use Rattle.std.proofs.lemmas.Bool.{and_parts}
use Rattle.std.proofs.Math.Bool.{or-true}
use Rattle.std.proofs.Common.{◌≡◌, ℕ, ◌+◌, ◌<◌, ◌≤◌, max, Bool, true, false, cond, ◌||◌, List, [], ◌∷◌, ◌++◌, nat_lt, nat_eq, refl, inl, inr, sym, ◌∙◌, ap, arith, rules}
use Rattle.std.specs.List.{list_any, list_all}
use Rattle.std.specs.Ordering.{nat_cmp, eq_by_cmp}
use Rattle.std.specs.Cmp.{nat_cmp_total, unsigned_tied}
use Rattle.std.specs.FinSet.{members, same_set, nat_cmp-IsAntisymmetric, contains, insert, len, is_subset, contains-from_list_nat, contains-insert, len-insert, from_list_push, is_subset-contains, contains-is_subset}
use Rattle.std.proofs.lemmas.Bool.{eqb-true, eq-eqb, cases_Bool}
use Rattle.std.proofs.lemmas.Bool.Decides.{nat_tests}
use Rattle.std.proofs.lemmas.List.{append-nil}
use Rattle.std.proofs.lemmas.List.Folds.{list_any-append}
use Rattle.std.proofs.lemmas.Map.Views.{any-filter_same}
use Rattle.hll_coupons.specs.Pair.{Pairs, set_of}
use Rattle.hll_coupons.specs.Table.{coupons_in, coupons_with}

-- the set doesn't depend on the order of its members
pub set_of-between : (xs ys : List ℕ) (c : ℕ) → set_of (xs ++ c ∷ ys) ≡ insert (set_of (xs ++ ys)) c
set_of-between [] ys c = refl
set_of-between (x ∷ xs) ys c = ap (λ s. insert s x) (set_of-between xs ys c) ∙ swapped (set_of (xs ++ ys)) c x
  where
    swapped : (s : Pairs) (a b : ℕ) → insert (insert s a) b ≡ insert (insert s b) a
    swapped s a b = same_set nat_cmp_total nat_cmp-IsAntisymmetric _ _ (λ q. grind (members, rules))

-- a member that a set lacks makes it larger by one
pub len-between : (xs ys : List ℕ) (c : ℕ) → contains (set_of (xs ++ ys)) c ≡ false → len (set_of (xs ++ c ∷ ys)) ≡ len (set_of (xs ++ ys)) + 1
len-between xs ys c fresh =
    ap len (set_of-between xs ys c) ∙ len-insert nat_cmp_total _ c
    ∙ ap (λ b. cond b (len (set_of (xs ++ ys))) (len (set_of (xs ++ ys)) + 1)) fresh

-- a search among the buckets finds a coupon exactly if a bucket has it
pub contains-coupons_in : (buckets : List ℕ) (q : ℕ) → 0 < q → list_any (λ y. nat_eq y q) buckets ≡ contains (set_of (coupons_in buckets)) q
contains-coupons_in buckets q h =
    sym (any-filter_same (λ y. nat_eq y q) (λ c. nat_lt 0 c) true (λ k e. full k e) buckets) ∙ sym (contains-from_list_nat (coupons_in buckets) q)
  where
    full : (k : ℕ) → nat_eq k q ≡ true → nat_lt 0 k ≡ true
    full k e = grind (arith, nat_tests)

-- the number for an empty bucket is never a member
pub contains-zero : (buckets : List ℕ) → contains (set_of (coupons_in buckets)) 0 ≡ false
contains-zero buckets =
    contains-from_list_nat (coupons_in buckets) 0 ∙ any-filter_same (λ y. nat_eq y 0) (λ c. nat_lt 0 c) false (λ k e. none k e) buckets
  where
    none : (k : ℕ) → nat_eq k 0 ≡ true → nat_lt 0 k ≡ false
    none k e = grind (arith, nat_tests)

-- what a set doesn't lack is a member
pub member_unless_lacking : (s : Pairs) (c : ℕ) → (contains s c ≡ false → ⊥) → contains s c ≡ true
member_unless_lacking s c h = elim (cases_Bool (contains s c)) [ inl t ↦ t | inr f ↦ absurd (h f) ]

-- inserting a member changes nothing
pub insert-member : (s : Pairs) (c : ℕ) → contains s c ≡ true → insert s c ≡ s
insert-member s c h = same_set nat_cmp_total nat_cmp-IsAntisymmetric _ _ (λ q. kept q (nat_eq q c) refl)
  where
    kept : (q : ℕ) (b : Bool) → nat_eq q c ≡ b → contains (insert s c) q ≡ contains s q
    kept q true e =
        let is_member : contains s q ≡ true = ap (contains s) (eqb-true q c e) ∙ h in
        contains-insert nat_cmp_total s c q ∙ ap (λ b. eq_by_cmp nat_cmp q c || b) is_member ∙ or-true (eq_by_cmp nat_cmp q c) ∙ sym is_member
    kept q false e = contains-insert nat_cmp_total s c q ∙ ap (λ b. b || contains s q) (unsigned_tied q c ∙ e)

-- an inserted coupon is a member
pub set_of-coupons_with : (order : List ℕ) (c : ℕ) → set_of (coupons_with order c) ≡ insert (set_of order) c
set_of-coupons_with order c = decide (contains (set_of order) c) refl
  where
    decide : (b : Bool) → contains (set_of order) c ≡ b → set_of (cond b order (order ++ c ∷ [])) ≡ insert (set_of order) c
    decide true e = sym (insert-member (set_of order) c e)
    decide false e = from_list_push nat_cmp_total nat_cmp-IsAntisymmetric order c

either : (a b : Bool) (P : Type 0) → (a || b) ≡ true → (a ≡ true → P) → (b ≡ true → P) → P
either true b P e f g = f refl
either false b P e f g = g e

found : (s : Pairs) (xs : List ℕ) (q : ℕ) → list_all (contains s) xs ≡ true → list_any (λ y. nat_eq y q) xs ≡ true → contains s q ≡ true
found s [] q all any = absurd (cc)
found s (x ∷ xs) q all any =
    let h = and_parts _ _ all in
    either _ _ (contains s q ≡ true) any (λ e. ap (contains s) (sym (eqb-true x q e)) ∙ h.0) (found s xs q h.1)

-- a list of members is a subset
is_subset-all : (s : Pairs) (xs : List ℕ) → list_all (contains s) xs ≡ true → is_subset (set_of xs) s ≡ true
is_subset-all s xs all = contains-is_subset nat_cmp_total (set_of xs) s (λ q h. found s xs q all (sym (contains-from_list_nat xs q) ∙ h))

-- a list with a coupon that the set lacks is no subset
is_subset-missing : (s : Pairs) (xs ys : List ℕ) (c : ℕ) → contains s c ≡ false → is_subset (set_of (xs ++ c ∷ ys)) s ≡ false
is_subset-missing s xs ys c missing = decide (is_subset (set_of (xs ++ c ∷ ys)) s) refl
  where
    decide : (b : Bool) → is_subset (set_of (xs ++ c ∷ ys)) s ≡ b → is_subset (set_of (xs ++ c ∷ ys)) s ≡ false
    decide false e = e
    decide true e =
        let here : contains (set_of (xs ++ c ∷ ys)) c ≡ true =
        contains-from_list_nat (xs ++ c ∷ ys) c ∙ list_any-append (λ y. nat_eq y c) xs (c ∷ ys)
        ∙ ap (λ b. list_any (λ y. nat_eq y c) xs || (b || list_any (λ y. nat_eq y c) ys)) (eq-eqb c c refl) ∙ or-true (list_any (λ y. nat_eq y c) xs) in
        absurd (cc (is_subset-contains nat_cmp_total (set_of (xs ++ c ∷ ys)) s e c here))

-- the first lemma for a list given as a whole and in parts
pub is_subset-of_all : (s : Pairs) (all xs : List ℕ) → all ≡ xs ++ [] → list_all (contains s) xs ≡ true → true ≡ is_subset (set_of all) s
is_subset-of_all s all xs e h = sym (ap (λ ys. is_subset (set_of ys) s) (e ∙ append-nil xs) ∙ is_subset-all s xs h)

pub is_subset-of_missing : (s : Pairs) (all xs ys : List ℕ) (c : ℕ) → all ≡ xs ++ c ∷ ys → contains s c ≡ false → false ≡ is_subset (set_of all) s
is_subset-of_missing s all xs ys c e h = sym (ap (λ zs. is_subset (set_of zs) s) e ∙ is_subset-missing s xs ys c h)

-- a bound of the members of a set, and of an inserted one
pub insert-bound : (s : Pairs) (c m : ℕ) → ((q : ℕ) → contains s q ≡ true → q ≤ m) → (q : ℕ) → contains (insert s c) q ≡ true → q ≤ max m c
insert-bound s c m low q member = of (nat_eq q c) refl
  where
    of : (b : Bool) → nat_eq q c ≡ b → q ≤ max m c
    of true e = omega (arith, eqb-true q c e)
    of false e =
        let among : contains s q ≡ true = sym (contains-insert nat_cmp_total s c q ∙ ap (λ b. b || contains s q) (unsigned_tied q c ∙ e)) ∙ member in
        omega (arith, low q among)
