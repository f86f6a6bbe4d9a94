-- SPDX-License-Identifier: Apache-2.0
-- Sorted raw coupons, each kept once.
use Rattle.std.proofs.Common.{◌≡◌, ℕ, ◌+◌, ◌-◌, ◌<◌, ◌≤◌, Bool, true, false, ◌||◌, nat_eq, List, [], ◌∷◌, ◌++◌, length, take, get_or, set, not, refl, sym, ap, subst, ◌∙◌, inl, inr, arith}
use Rattle.std.specs.Cmp.{nat_cmp_total}
use Rattle.std.specs.FinSet.{same_set, nat_cmp-IsAntisymmetric, contains-from_list_nat}
use Rattle.std.specs.List.Sorted.{IsStrictlyIncreasing, IsNonDecreasing}
use mir.Val.{bool_byte}
use Rattle.std.proofs.lemmas.Bool.{eqb-true, eq-eqb, cases_eq, cases_Bool, true≢false}
use Rattle.std.proofs.lemmas.List.{take_more, take_more_set, take_all, length-take-le, length-set, set-get_or, get_or-set_same, get_or-set_other, get_or_append_left, get_or_at, get_or-take, length_push}
use Rattle.std.proofs.lemmas.List.Folds.{list_any-append}
use Rattle.hll_coupons.specs.Coupons.{IsAscending}
use Rattle.hll_coupons.specs.Pair.{set_of}
use Rattle.hll_coupons.proofs.Merging.{has}

pub same_set_of : (xs ys : List ℕ) → ((q : ℕ) → has xs q ≡ has ys q) → set_of xs ≡ set_of ys
same_set_of xs ys h = same_set nat_cmp_total nat_cmp-IsAntisymmetric _ _ (λ q. contains-from_list_nat xs q ∙ h q ∙ sym (contains-from_list_nat ys q))

-- a greater raw coupon after ascending ones
pub increasing_push : (xs : List ℕ) (n w : ℕ) → length xs ≡ n + 1 → IsStrictlyIncreasing xs → get_or xs n 0 < w → IsStrictlyIncreasing (xs ++ w ∷ [])
increasing_push xs n w len up less k within = elim (cases_eq k n) [
  | inl e ↦ rw (get_or_append_left xs (w ∷ []) 0 k (omega (arith, len, e)), get_or_at xs w [] 0 (k + 1) (omega (arith, len, e))) (subst (λ m. get_or xs m 0 < w) (sym e) less)
  | inr o ↦ let more : k + 1 < length xs = omega (arith, len, o, within, length_push xs w) in
      rw (get_or_append_left xs (w ∷ []) 0 k (omega (arith, more)), get_or_append_left xs (w ∷ []) 0 (k + 1) more) (up k more)
]

again : (m b : Bool) → ((m || (b || false)) || (b || false)) ≡ (m || (b || false))
again true b = refl
again false true = refl
again false false = refl

-- the members of a list, and of the list with one more number
pub has_push : (xs : List ℕ) (w q : ℕ) → has (xs ++ w ∷ []) q ≡ (has xs q || (nat_eq w q || false))
has_push xs w q = list_any-append (λ y. nat_eq y q) xs (w ∷ [])

-- the last number is a member already
pub has_last : (xs : List ℕ) (n q : ℕ) → n < length xs → (has (take (n + 1) xs) q || (nat_eq (get_or xs n 0) q || false)) ≡ has (take (n + 1) xs) q
has_last xs n q l =
    let e : has (take (n + 1) xs) q ≡ (has (take n xs) q || (nat_eq (get_or xs n 0) q || false)) = ap (λ ys. has ys q) (take_more xs n 0 l) ∙ has_push (take n xs) (get_or xs n 0) q in
    ap (λ b. b || (nat_eq (get_or xs n 0) q || false)) e ∙ again (has (take n xs) q) (nat_eq (get_or xs n 0) q) ∙ sym e

-- ---- the numbers of a sorted list before index i, each once at the start
pub record Once (all raws : List ℕ) (last i : ℕ) : Type 0 where
  pub after : last < i
  pub within : i ≤ length raws
  pub left : (k : ℕ) → i ≤ k → get_or raws k 0 ≡ get_or all k 0
  pub tip : get_or raws last 0 ≡ get_or all (i - 1) 0
  pub increasing : IsStrictlyIncreasing (take (last + 1) raws)
  pub members : (q : ℕ) → has (take (last + 1) raws) q ≡ has (take i all) q

pub once_first : (all : List ℕ) → 0 < length all → Once all all 0 1
once_first all some = record {
  after = omega arith;
  within = omega (arith, some);
  left = λ k h. refl;
  tip = refl;
  increasing = λ k within. absurd (omega (arith, within, length-take-le 1 all (omega (arith, some))));
  members = λ q. refl;
}

module _ (all raws : List ℕ) (last i : ℕ) (up : IsNonDecreasing all) (same : length raws ≡ length all) (so : Once all raws last i) (l : i < length all) where
  all_push : (q : ℕ) → has (take (i + 1) all) q ≡ (has (take i all) q || (nat_eq (get_or all i 0) q || false))
  all_push q = ap (λ ys. has ys q) (take_more all i 0 l) ∙ has_push (take i all) (get_or all i 0) q

  stays : get_or raws last 0 ≡ get_or raws i 0 → Once all raws last (i + 1)
  stays is =
      let e : i + 1 - 1 ≡ i = omega arith in
      let w : get_or raws last 0 ≡ get_or all i 0 = is ∙ so.left i (omega arith) in
      record {
        after = omega (arith, so.after);
        within = omega (arith, l, same);
        left = λ k h. so.left k (omega (arith, h));
        tip = w ∙ sym (ap (λ m. get_or all m 0) e);
        increasing = so.increasing;
        members = λ q.
            sym (all_push q ∙ (λ j. sym (so.members q) j || (nat_eq (sym w j) q || false)) ∙ has_last raws last q (omega (arith, so.after, so.within)));
      }

  grows : (get_or raws last 0 ≡ get_or raws i 0 → ⊥) → Once all (set raws (last + 1) (get_or raws i 0)) (last + 1) (i + 1)
  grows other =
      let w : ℕ = get_or raws i 0 in
      let e : i + 1 - 1 ≡ i = omega arith in
      let is : w ≡ get_or all i 0 = so.left i (omega arith) in
      let there : last + 1 < length raws = omega (arith, so.after, l, same) in
      let front : take (last + 1 + 1) (set raws (last + 1) w) ≡ take (last + 1) raws ++ w ∷ [] = take_more_set raws (last + 1) w there in
      let rises : get_or all (i - 1) 0 ≤ get_or all i 0 = up (i - 1) i 0 (omega arith) l in
      let less : get_or (take (last + 1) raws) last 0 < w = omega (arith, get_or-take (last + 1) raws last 0 (omega arith), so.tip, rises, is, other) in
      record {
        after = omega (arith, so.after);
        within = omega (arith, l, same, length-set raws (last + 1) w);
        left = λ k h. get_or-set_other raws (last + 1) k w 0 (omega (arith, h, so.after)) ∙ so.left k (omega (arith, h));
        tip = get_or-set_same raws (last + 1) w 0 there ∙ is ∙ sym (ap (λ m. get_or all m 0) e);
        increasing = subst IsStrictlyIncreasing (sym front) (increasing_push (take (last + 1) raws) last w (length-take-le (last + 1) raws (omega (arith, there))) so.increasing less);
        members = λ q. ap (λ ys. has ys q) front ∙ has_push (take (last + 1) raws) w q ∙ (λ j. so.members q j || (nat_eq (is j) q || false)) ∙ sym (all_push q);
      }

  pub once_more : (d : ℕ) → d ≡ bool_byte (not (nat_eq (get_or raws last 0) (get_or raws i 0))) → Once all (set raws (last + d) (get_or raws i 0)) (last + d) (i + 1)
  once_more d is = elim (cases_Bool (nat_eq (get_or raws last 0) (get_or raws i 0))) [
    | inl t ↦
        let e : last + d ≡ last = omega (arith, is ∙ ap (λ b. bool_byte (not b)) t) in
        let s : set raws last (get_or raws i 0) ≡ raws = ap (set raws last) (sym (eqb-true _ _ t)) ∙ set-get_or raws last 0 in
        subst (λ n. Once all (set raws n (get_or raws i 0)) n (i + 1)) (sym e) (subst (λ ys. Once all ys last (i + 1)) (sym s) (stays (eqb-true _ _ t)))
    | inr f ↦
        let e : d ≡ 1 = is ∙ ap (λ b. bool_byte (not b)) f in
        subst (λ n. Once all (set raws (last + n) (get_or raws i 0)) (last + n) (i + 1)) (sym e) (grows (λ z. true≢false (sym (eq-eqb _ _ z) ∙ f)))
  ]

pub once_all : (all raws : List ℕ) (last i : ℕ) → Once all raws last i → length all ≤ i → IsAscending (take (last + 1) raws) (set_of all)
once_all all raws last i so ended = record {
  increasing = so.increasing;
  members = same_set_of (take (last + 1) raws) (take i all) so.members ∙ ap set_of (take_all i all ended);
}
