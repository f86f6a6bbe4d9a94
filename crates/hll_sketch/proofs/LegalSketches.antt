-- SPDX-License-Identifier: Apache-2.0
-- Legal sketches are still legal after pairs are added, or a sketch is merged.
use Rattle.std.proofs.Common.{◌≡◌, ℕ, ◌+◌, ◌-◌, ◌*◌, ◌^◌, ◌<◌, ◌≤◌, inl, inr, zero, suc, Bool, true, false, cond, ◌&&◌, nat_eq, eqb, leb, List, [], ◌∷◌, Option, Some, None, length, get_or, All, refl, sym, ap, subst, ◌∙◌, arith}
use Rattle.std.specs.Prelude.{min, find}
use Rattle.std.specs.Cmp.Lexicographic.{pointwise}
use Rattle.std.specs.List.{range_with_len}
use Rattle.std.specs.FinSet.{items, union, len, contains}
use Rattle.std.proofs.lemmas.Bool.{cases_Bool, cond-true, cond-false, and_parts, or_cases, eqb-true, leb-true, ne_eqb}
use Rattle.std.proofs.lemmas.List.Elements.{All-from_get_or}
use Rattle.std.proofs.lemmas.Nat.{pow_pos, pow_below}
use Rattle.hll_coupons.specs.Pair.{Pairs, value_of}
use Rattle.hll_coupons.specs.Fold.{fold_to, pairs, greatest, value_at}
use Rattle.hll_base.specs.Join.{join}
use Rattle.hll_coupons.proofs.Greatest.{bounded}
use Rattle.hll_coupons.proofs.Folds.{length-fold_to, get_or-fold_to}
use Rattle.hll_base.proofs.Joins.{length-join, get_or-join}
use Rattle.hll_coupons.proofs.Registers.{value_at_cases, StandsFor, pairs_only, value_of-pair}
use Rattle.hll_registers.specs.declared.estimate_state.EstimateState.{EstimateState}
use Rattle.hll_registers.specs.State.{IsState, cleared_state, state_after}
use Rattle.hll_kernels.specs.Packed.{AreRegisters}
use Rattle.hll_sketch.specs.Stage.{stage, can_hold}
use Rattle.hll_sketch.specs.Value.{Sketch, Content, coupons, registers, pairs_in, pairs_of, is_empty, ArePairs, IsLgK, IsTableFor, IsLegalContent, IsLegal}
use Rattle.hll_sketch.specs.Adding.{content_for, content_with, add}
use Rattle.hll_sketch.specs.Merging.{merge_coupons, merge_content, state_after_merge}
use Rattle.hll_sketch.specs.Laws.{AddIsLegal, MergeIsLegal}
use Rattle.hll_coupons.proofs.Unions.{contains_union}

-- ---- sizes

-- a number that is found in a range is in it and passes
pub found_in_range : (f : ℕ → Bool) (a n q : ℕ) → find f (range_with_len a n) ≡ Some q → (a ≤ q) × (q < a + n) × (f q ≡ true)
found_in_range f a zero q e = absurd (cc)
found_in_range f a (suc n) q e = elim (cases_Bool (f a)) [
  | inl t ↦
      let at : Some a ≡ Some q = sym (cond-true (f a) (Some a) (find f (range_with_len (a + 1) n)) t) ∙ e in
      let same : a ≡ q = cc in
      (omega arith, omega arith, ap f (sym same) ∙ t)
  | inr z ↦ let r = found_in_range f (a + 1) n q (sym (cond-false (f a) (Some a) (find f (range_with_len (a + 1) n)) z) ∙ e) in (omega (arith, r.0), omega (arith, r.1), r.2)
]

pub legal_size : (k from n q : ℕ) → stage k from n ≡ Some q → IsTableFor k n q
legal_size k from n q e = elim (cases_Bool (leb from 3 && can_hold 3 n)) [
  | inl t ↦
      let at : Some 3 ≡ Some q = sym (cond-true (leb from 3 && can_hold 3 n) (Some 3) _ t) ∙ e in
      let same : q ≡ 3 = cc in
      inl (same, omega (arith, leb-true n 7 (and_parts (leb from 3) (can_hold 3 n) t).1))
  | inr z ↦
      let r = found_in_range (λ size. leb from size && can_hold size n) 5 (k - 7) q (sym (cond-false (leb from 3 && can_hold 3 n) (Some 3) _ z) ∙ e) in
      let fits : can_hold q n ≡ true = (and_parts (leb from q) (can_hold q n) r.2).1 in
      let other : eqb q 3 ≡ false = ne_eqb q 3 (λ s. omega (arith, r.0)) in
      let most : 4 * n ≤ 3 * 2 ^ q = leb-true (4 * n) (3 * 2 ^ q) (sym (cond-false (eqb q 3) (leb n 7) (leb (4 * n) (3 * 2 ^ q)) other) ∙ fits) in
      inr (r.0, omega (arith, r.1), omega (arith, pow_pos q))
]

-- ---- registers

pub ArePairs-union : (P Q : Pairs) → ArePairs P → ArePairs Q → ArePairs (union P Q)
ArePairs-union P Q p q c h = elim (or_cases (contains P c) (contains Q c) (sym (contains_union P Q c) ∙ h)) [ inl l ↦ p c l | inr r ↦ q c r ]

pub fold_are_registers : (P : Pairs) (k : ℕ) → ArePairs P → AreRegisters k (fold_to P k)
fold_are_registers P k are = record {
  size = length-fold_to P k;
  small = All-from_get_or (λ v. v ≤ 63) (fold_to P k) 0 (λ i h.
      let within : i < 2 ^ k = omega (arith, length-fold_to P k) in
      let most : greatest (value_at k i) (items P) ≤ 63 = bounded (value_at k i) 63 P (λ c e. elim (value_at_cases k i c) [ inl z ↦ omega arith | inr y ↦ omega (arith, y.1, (are c e).small) ]) in
      omega (arith, get_or-fold_to P k i within));
}

pub join_are_registers : (k : ℕ) (R Q : List ℕ) → AreRegisters k R → AreRegisters k Q → AreRegisters k (join R Q)
join_are_registers k R Q r q =
    let size : length (join R Q) ≡ length R = length-join R Q (r.size ∙ sym q.size) in
    record {
      size = size ∙ r.size;
      small = All-from_get_or (λ v. v ≤ 63) (join R Q) 0 (λ i h.
          let one : get_or R i 0 ≤ 63 = r.small i 0 (omega (arith, size)) in
          let two : get_or Q i 0 ≤ 63 = q.small i 0 (omega (arith, size, r.size, q.size)) in
          omega (arith, get_or-join R Q i));
    }

pub ArePairs-pairs : (k : ℕ) (R : List ℕ) → k ≤ 21 → AreRegisters k R → ArePairs (pairs R)
ArePairs-pairs k R small are q h =
    let found : (i : ℕ) × StandsFor R 0 q i = pairs_only R q h in
    let i : ℕ = found.0 in
    let v : ℕ = get_or R i 0 in
    let is : value_of q ≡ v = ap value_of found.1.is ∙ value_of-pair (0 + i) v (omega (arith, found.1.within, pow_below k 26 (omega arith), are.size)) in
    let most : v ≤ 63 = are.small i 0 found.1.within in
    record { valued = omega (arith, found.1.positive); small = omega arith }

zeros_small : All (λ w. w < 2 ^ 64) (0 ∷ 0 ∷ 0 ∷ [])
zeros_small = All-from_get_or (λ w. w < 2 ^ 64) (0 ∷ 0 ∷ 0 ∷ []) 0 at
  where
    at : (i : ℕ) → i < 3 → get_or (0 ∷ 0 ∷ 0 ∷ []) i 0 < 2 ^ 64
    at zero h = omega arith
    at (suc zero) h = omega arith
    at (suc (suc zero)) h = omega arith
    at (suc (suc (suc i))) h = absurd (omega arith)

pub IsState-cleared_state : IsState cleared_state
IsState-cleared_state = record { three = refl; words = zeros_small }

IsState-after : (R Q : List ℕ) (s : EstimateState) → IsState s → IsState (state_after R Q s)
IsState-after R Q s h = elim (pointwise nat_eq R Q) as (λ b. IsState (cond b s cleared_state)) [ true ↦ h | false ↦ IsState-cleared_state ]

-- ---- adding

pub settled_legal : (k : ℕ) (S : Pairs) (n : ℕ) (o : Option ℕ) (from : ℕ) → ArePairs S → n ≡ len S → stage k from n ≡ o → IsLegalContent k (content_for k S o)
settled_legal k S n (Some q) from are is e = (are, subst (λ m. IsTableFor k m q) is (legal_size k from n q e))
settled_legal k S n None from are is e = (fold_are_registers S k are, IsState-cleared_state)

added_legal : (k : ℕ) (c : Content) (T : Pairs) → IsLegalContent k c → ArePairs T → IsLegalContent k (content_with k c T)
added_legal k (coupons S p) T h t = settled_legal k (union S T) (len (union S T)) (stage k p (len (union S T))) p (ArePairs-union S T h.0 t) refl refl
added_legal k (registers R s) T h t = (join_are_registers k R (fold_to T k) h.0 (fold_are_registers T k t), IsState-after R (join R (fold_to T k)) s h.1)

pub add_is_legal : AddIsLegal
add_is_legal x T h t = record { lg_k = h.lg_k; content = added_legal x.lg_k x.content T h.content t }

-- ---- merging

pub pairs_are : (k : ℕ) (c : Content) → k ≤ 21 → IsLegalContent k c → ArePairs (pairs_in c)
pairs_are k (coupons S p) small h = h.0
pairs_are k (registers R s) small h = ArePairs-pairs k R small h.0

IsState-merge : (bound : ℕ) (g : Sketch) (k : ℕ) (s : EstimateState) → IsState s → IsState (state_after_merge bound g k s)
IsState-merge bound g k s h = elim (is_empty g && leb k bound) as (λ b. IsState (cond b s cleared_state)) [ true ↦ h | false ↦ IsState-cleared_state ]

IsLgK-min : (j k : ℕ) → IsLgK j → IsLgK k → IsLgK (min j k)
IsLgK-min j k a b = record { low = omega (arith, a.low, b.low); high = omega (arith, a.high) }

merged_coupons_legal : (g x : Sketch) → IsLegal g → IsLegal x → IsLegal (merge_coupons g x)
merged_coupons_legal g x a b = elim (cases_Bool (is_empty g && nat_eq g.lg_k x.lg_k)) [
  | inl whole ↦
      let same : g.lg_k ≡ x.lg_k = eqb-true g.lg_k x.lg_k (and_parts (is_empty g) (nat_eq g.lg_k x.lg_k) whole).1 in
      rw (cond-true (is_empty g && nat_eq g.lg_k x.lg_k) (record g { content = x.content }) (add g (pairs_of x)) whole)
      (record { lg_k = a.lg_k; content = subst (λ k. IsLegalContent k x.content) (sym same) b.content })
  | inr each ↦
      rw (cond-false (is_empty g && nat_eq g.lg_k x.lg_k) (record g { content = x.content }) (add g (pairs_of x)) each)
      (add_is_legal g (pairs_of x) a (pairs_are x.lg_k x.content b.lg_k.high b.content))
]

merged_content_legal : (bound : ℕ) (g x : Sketch) (c : Content) → x.content ≡ c → IsLegal g → IsLegal x → IsLegal (merge_content bound g x c)
merged_content_legal bound g x (coupons S p) e a b = merged_coupons_legal g x a b
merged_content_legal bound g x (registers R s) e a b =
    let h = subst (IsLegalContent x.lg_k) e b.content in
    record {
      lg_k = IsLgK-min g.lg_k x.lg_k a.lg_k b.lg_k;
      content = (
        fold_are_registers (union (pairs_of g) (pairs R)) (min g.lg_k x.lg_k)
            (ArePairs-union (pairs_of g) (pairs R) (pairs_are g.lg_k g.content a.lg_k.high a.content) (ArePairs-pairs x.lg_k R b.lg_k.high h.0)),
        IsState-merge bound g x.lg_k s h.1,
      );
    }

pub merge_is_legal : MergeIsLegal
merge_is_legal bound g x a b = elim (cases_Bool (is_empty x)) [
  | inl e ↦ rw (cond-true (is_empty x) g (merge_content bound g x x.content) e) a
  | inr e ↦ rw (cond-false (is_empty x) g (merge_content bound g x x.content) e) (merged_content_legal bound g x x.content refl a b)
]
