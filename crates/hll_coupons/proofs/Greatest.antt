-- SPDX-License-Identifier: Apache-2.0
-- The greatest of a function over a list or a set.
use Rattle.std.proofs.Common.{◌≡◌, ℕ, ◌≤◌, true, List, [], ◌∷◌, refl, sym, ap, ◌∙◌, arith, inl, inr}
use Rattle.std.specs.Prelude.{max}
use Rattle.std.specs.List.{list_any}
use Rattle.std.specs.Ordering.{nat_cmp, eq_by_cmp}
use Rattle.std.specs.Cmp.{unsigned_tied, nat_cmp_total}
use Rattle.std.specs.FinSet.{items, contains, contains-items, union, contains-union, insert, contains-insert, contains-empty}
use Rattle.std.proofs.lemmas.Bool.{true≢false, eqb-true, eq-eqb, or_cases, or_left, or_right}
use Rattle.hll_coupons.specs.Pair.{Pairs, set_of}
use Rattle.hll_coupons.specs.Fold.{greatest}

pub same_raw_coupon : (q c : ℕ) → eq_by_cmp nat_cmp q c ≡ true → q ≡ c
same_raw_coupon q c e = eqb-true q c (sym (unsigned_tied q c) ∙ e)

pub itself : (q c : ℕ) → q ≡ c → eq_by_cmp nat_cmp q c ≡ true
itself q c e = unsigned_tied q c ∙ eq-eqb q c e

bounded_list : (f : ℕ → ℕ) (m : ℕ) (cs : List ℕ) → ((c : ℕ) → list_any (eq_by_cmp nat_cmp c) cs ≡ true → f c ≤ m) → greatest f cs ≤ m
bounded_list f m [] h = omega arith
bounded_list f m (c ∷ cs) h =
    let head : f c ≤ m = h c (or_left _ _ (itself c c refl)) in
    let tail : greatest f cs ≤ m = bounded_list f m cs (λ d e. h d (or_right _ _ e)) in
    omega arith

reached_list : (f : ℕ → ℕ) (q : ℕ) (cs : List ℕ) → list_any (eq_by_cmp nat_cmp q) cs ≡ true → f q ≤ greatest f cs
reached_list f q [] e = cc
reached_list f q (c ∷ cs) e = elim (or_cases (eq_by_cmp nat_cmp q c) _ e) [
  | inl h ↦ let same : f q ≡ f c = ap f (same_raw_coupon q c h) in omega arith
  | inr h ↦ let below : f q ≤ greatest f cs = reached_list f q cs h in omega arith
]

-- The greatest over a set is the least bound of its members.
pub bounded : (f : ℕ → ℕ) (m : ℕ) (P : Pairs) → ((c : ℕ) → contains P c ≡ true → f c ≤ m) → greatest f (items P) ≤ m
bounded f m P h = bounded_list f m (items P) (λ c e. h c (contains-items P c ∙ e))

pub reached : (f : ℕ → ℕ) (q : ℕ) (P : Pairs) → contains P q ≡ true → f q ≤ greatest f (items P)
reached f q P e = reached_list f q (items P) (sym (contains-items P q) ∙ e)

pub greatest-union : (f : ℕ → ℕ) (P Q : Pairs) → greatest f (items (union P Q)) ≡ max (greatest f (items P)) (greatest f (items Q))
greatest-union f P Q =
    let m : ℕ = max (greatest f (items P)) (greatest f (items Q)) in
    let u : ℕ = greatest f (items (union P Q)) in
    let below : u ≤ m = bounded f m (union P Q) (λ c e. elim (or_cases (contains P c) (contains Q c) (sym (contains-union nat_cmp_total P Q c) ∙ e)) [
      | inl h ↦ omega (arith, reached f c P h)
      | inr h ↦ omega (arith, reached f c Q h)
    ]) in
    let left : greatest f (items P) ≤ u = bounded f u P (λ c e. reached f c (union P Q) (contains-union nat_cmp_total P Q c ∙ or_left (contains P c) (contains Q c) e)) in
    let right : greatest f (items Q) ≤ u = bounded f u Q (λ c e. reached f c (union P Q) (contains-union nat_cmp_total P Q c ∙ or_right (contains P c) (contains Q c) e)) in
    omega arith

pub greatest-insert : (f : ℕ → ℕ) (P : Pairs) (c : ℕ) → greatest f (items (insert P c)) ≡ max (f c) (greatest f (items P))
greatest-insert f P c =
    let m : ℕ = max (f c) (greatest f (items P)) in
    let u : ℕ = greatest f (items (insert P c)) in
    let below : u ≤ m = bounded f m (insert P c) (λ d e. elim (or_cases (eq_by_cmp nat_cmp d c) (contains P d) (sym (contains-insert nat_cmp_total P c d) ∙ e)) [
      | inl h ↦ let same : f d ≡ f c = ap f (same_raw_coupon d c h) in omega arith
      | inr h ↦ omega (arith, reached f d P h)
    ]) in
    let here : f c ≤ u = reached f c (insert P c) (contains-insert nat_cmp_total P c c ∙ or_left (eq_by_cmp nat_cmp c c) (contains P c) (itself c c refl)) in
    let others : greatest f (items P) ≤ u = bounded f u P (λ d e. reached f d (insert P c) (contains-insert nat_cmp_total P c d ∙ or_right (eq_by_cmp nat_cmp d c) (contains P d) e)) in
    omega arith

pub greatest-set_of : (f : ℕ → ℕ) (cs : List ℕ) → greatest f cs ≡ greatest f (items (set_of cs))
greatest-set_of f [] =
    let none : greatest f (items (set_of [])) ≤ 0 = bounded f 0 (set_of []) (λ c e. absurd (true≢false (sym e ∙ contains-empty nat_cmp c))) in
    omega arith
greatest-set_of f (c ∷ cs) = ap (max (f c)) (greatest-set_of f cs) ∙ sym (greatest-insert f (set_of cs) c)
