-- SPDX-License-Identifier: Apache-2.0
-- Sets of the same size are equal if one is a subset of the other.
use Rattle.std.proofs.Common.{◌≡◌, ℕ, ◌+◌, ◌-◌, ◌≤◌, Bool, true, false, cond, not, ◌&&◌, ◌||◌, List, [], ◌∷◌, refl, sym, ap, ◌∙◌, arith, inl, inr}
use Rattle.std.specs.Ordering.{nat_cmp, eq_by_cmp}
use Rattle.std.specs.Cmp.{nat_cmp_total, unsigned_tied}
use Rattle.std.specs.FinSet.{contains, insert, remove, len, len-insert, len-remove, contains-insert, contains-remove, empty_of_len, contains-empty, len-empty, is_subset, is_subset-contains, contains-is_subset}
use Rattle.std.proofs.lemmas.Bool.{cases_Bool, eqb-true, or_left, or_right, true≢false}
use Rattle.hll_coupons.specs.Pair.{Pairs, set_of}
use Rattle.hll_coupons.specs.Table.{Table, coupons_of}
use Rattle.hll_coupons.specs.Same.{have_same_coupons, same_coupons-from}
use Rattle.hll_coupons.proofs.Greatest.{itself}
use Rattle.hll_coupons.proofs.Members.{insert-member}

some_in : (S : Pairs) (c : ℕ) → contains S c ≡ true → len S ≡ 0 → ⊥
some_in S c h z = true≢false (sym h ∙ ap (λ T. contains T c) (empty_of_len S z) ∙ contains-empty nat_cmp c)

pub inserted : (S : Pairs) (c : ℕ) → contains (insert S c) c ≡ true
inserted S c = contains-insert nat_cmp_total S c c ∙ or_left (eq_by_cmp nat_cmp c c) (contains S c) (itself c c refl)

pub inserted-more : (S : Pairs) (c q : ℕ) → contains S q ≡ true → contains (insert S c) q ≡ true
inserted-more S c q h = contains-insert nat_cmp_total S c q ∙ or_right (eq_by_cmp nat_cmp q c) (contains S q) h

kept_in : (S : Pairs) (c q : ℕ) → contains S q ≡ true → (q ≡ c → ⊥) → contains (remove S c) q ≡ true
kept_in S c q h other = contains-remove nat_cmp_total S c q ∙ decide (eq_by_cmp nat_cmp q c) refl
  where
    decide : (b : Bool) → eq_by_cmp nat_cmp q c ≡ b → (not b && contains S q) ≡ true
    decide true e = absurd (other (eqb-true q c (sym (unsigned_tied q c) ∙ e)))
    decide false e = h

-- a subset has no more members
pub len-part : (xs : List ℕ) (S : Pairs) → ((q : ℕ) → contains (set_of xs) q ≡ true → contains S q ≡ true) → len (set_of xs) ≤ len S
len-part [] S h = omega (arith, len-empty nat_cmp)
len-part (x ∷ xs) S h = elim (cases_Bool (contains (set_of xs) x)) [
  | inl old ↦ omega (arith, ap len (insert-member (set_of xs) x old), len-part xs S (λ q e. h q (inserted-more (set_of xs) x q e)))
  | inr new ↦
      let here : contains S x ≡ true = h x (inserted (set_of xs) x) in
      let longer : len (insert (set_of xs) x) ≡ len (set_of xs) + 1 = len-insert nat_cmp_total (set_of xs) x ∙ ap (λ b. cond b (len (set_of xs)) (len (set_of xs) + 1)) new in
      let shorter : len (remove S x) ≡ len S - 1 = len-remove nat_cmp_total S x ∙ ap (λ b. cond b (len S - 1) (len S)) here in
      let some : len S ≡ 0 → ⊥ = some_in S x here in
      let rest : len (set_of xs) ≤ len (remove S x) = len-part xs (remove S x) (λ q e.
      kept_in S x q (h q (inserted-more (set_of xs) x q e)) (λ same. true≢false (sym e ∙ ap (contains (set_of xs)) same ∙ new))) in
      omega (arith, longer, shorter, some, rest)
]

-- a subset with the same number of members is the whole set
pub part_of_same : (xs : List ℕ) (S : Pairs) → len (set_of xs) ≡ len S → is_subset (set_of xs) S ≡ true → is_subset S (set_of xs) ≡ true
part_of_same xs S same part = contains-is_subset nat_cmp_total S (set_of xs) (λ q h. elim (cases_Bool (contains (set_of xs) q)) [
  | inl found ↦ found
  | inr missing ↦
      let longer : len (insert (set_of xs) q) ≡ len (set_of xs) + 1 = len-insert nat_cmp_total (set_of xs) q ∙ ap (λ b. cond b (len (set_of xs)) (len (set_of xs) + 1)) missing in
      let few : len (set_of (q ∷ xs)) ≤ len S = len-part (q ∷ xs) S (λ r e. in_both q h r e) in
      absurd (omega (arith, longer, few))
])
  where
    in_both : (q : ℕ) → contains S q ≡ true → (r : ℕ) → contains (insert (set_of xs) q) r ≡ true → contains S r ≡ true
    in_both q h r e = decide (eq_by_cmp nat_cmp r q) refl (sym (contains-insert nat_cmp_total (set_of xs) q r) ∙ e)
      where
        decide : (b : Bool) → eq_by_cmp nat_cmp r q ≡ b → (b || contains (set_of xs) r) ≡ true → contains S r ≡ true
        decide true f u = ap (contains S) (eqb-true r q (sym (unsigned_tied r q) ∙ f)) ∙ h
        decide false f u = is_subset-contains nat_cmp_total (set_of xs) S part r u

-- tables with the same number of coupons have the same coupons if those of one are a subset
pub same-part : (t u : Table) → len (coupons_of t) ≡ len (coupons_of u) → is_subset (coupons_of t) (coupons_of u) ≡ have_same_coupons t u
same-part t u same = decide (is_subset (coupons_of t) (coupons_of u)) refl
  where
    decide : (b : Bool) → is_subset (coupons_of t) (coupons_of u) ≡ b → b ≡ (b && is_subset (coupons_of u) (coupons_of t))
    decide true e = sym (part_of_same _ (coupons_of u) same e)
    decide false e = refl

-- tables with different numbers of coupons never do
pub other-sizes : (t u : Table) → (len (coupons_of t) ≡ len (coupons_of u) → ⊥) → have_same_coupons t u ≡ false
other-sizes t u other = decide (have_same_coupons t u) refl
  where
    decide : (b : Bool) → have_same_coupons t u ≡ b → b ≡ false
    decide true e = absurd (other (ap len (same_coupons-from t u e)))
    decide false e = refl
