-- SPDX-License-Identifier: Apache-2.0
-- Registers and their pairs: each is the fold of the other.
use Rattle.std.proofs.Common.{◌≡◌, ℕ, ◌+◌, ◌-◌, ◌%◌, ◌^◌, ◌<◌, ◌≤◌, zero, suc, true, false, cond, ◌⊎◌, eqb, List, [], ◌∷◌, map, length, get_or, refl, sym, ap, ◌∙◌, arith, inl, inr}
use Rattle.std.specs.List.{list_any, range_with_len}
use Rattle.std.specs.Ordering.{nat_cmp, eq_by_cmp}
use Rattle.std.specs.Cmp.{nat_cmp_total}
use Rattle.std.specs.FinSet.{items, contains, contains-from_list}
use Rattle.std.proofs.lemmas.Bool.{eqb-true, eqb-false, eq-eqb, or_cases, or_left, or_right, cases_Bool, cases_lt, cond-true, cond-false}
use Rattle.std.proofs.lemmas.List.FromFn.{length-map-range_with_len, get_or-map-range_with_len}
use Rattle.std.proofs.lemmas.Nat.{mod-mul-add, div-mul-add, pow_below, pow_pos, mod_below}
use Rattle.std.proofs.Math.Nat.{mod-eq_of_lt, zero-add}
use Rattle.std.proofs.Math.Pow.{mod-mod-pow}
use Rattle.hll_coupons.specs.Pair.{Pairs, set_of, slot_of, value_of, pair}
use Rattle.hll_coupons.specs.Fold.{fold_to, greatest, value_at, pairs, raw_coupons_from}
use Rattle.hll_coupons.proofs.Greatest.{bounded, reached, same_raw_coupon, itself, greatest-set_of}
use Rattle.hll_coupons.proofs.Folds.{length-fold_to, get_or-fold_to, is_fold_to}

-- ---- the pairs of registers

-- a raw coupon of the list stands for a register that is not 0
pub record StandsFor (R : List ℕ) (s q i : ℕ) : Type 0 where
  pub within : i < length R
  pub positive : 0 < get_or R i 0
  pub is : q ≡ pair (s + i) (get_or R i 0)

further : (R : List ℕ) (r s q i : ℕ) → StandsFor R (s + 1) q i → StandsFor (r ∷ R) s q (suc i)
further R r s q i h = record { within = omega (arith, h.within); positive = h.positive; is = h.is ∙ ap (λ t. pair t (get_or R i 0)) (omega arith) }

pub in_raw_coupons : (R : List ℕ) (s q : ℕ) → list_any (eq_by_cmp nat_cmp q) (raw_coupons_from s R) ≡ true → (i : ℕ) × StandsFor R s q i
in_raw_coupons [] s q e = cc
in_raw_coupons (r ∷ R) s q e =
    let on : (i : ℕ) × StandsFor R (s + 1) q i → (i : ℕ) × StandsFor (r ∷ R) s q i = λ h. (suc h.0, further R r s q h.0 h.1) in
    elim (eqb r 0) as (λ b. eqb r 0 ≡ b → list_any (eq_by_cmp nat_cmp q) (cond b (raw_coupons_from (s + 1) R) (pair s r ∷ raw_coupons_from (s + 1) R)) ≡ true → (i : ℕ) × StandsFor (r ∷ R) s q i) [
      | true ↦ λ z e. on (in_raw_coupons R (s + 1) q e)
      | false ↦ λ z e. elim (or_cases (eq_by_cmp nat_cmp q (pair s r)) _ e) [
        | inl h ↦ (0, let nz : r ≡ 0 → ⊥ = eqb-false r 0 z in record { within = omega arith; positive = omega arith; is = same_raw_coupon q (pair s r) h ∙ ap (λ t. pair t r) (omega arith) })
        | inr h ↦ on (in_raw_coupons R (s + 1) q h)
      ]
    ] refl e

pub raw_coupons_have : (R : List ℕ) (s q i : ℕ) → StandsFor R s q i → list_any (eq_by_cmp nat_cmp q) (raw_coupons_from s R) ≡ true
raw_coupons_have [] s q i h = absurd (omega (arith, h.within))
raw_coupons_have (r ∷ R) s q zero h =
    let nz : eqb r 0 ≡ false = elim (cases_Bool (eqb r 0)) [ inl t ↦ absurd (omega (arith, h.positive, eqb-true r 0 t)) | inr f ↦ f ] in
    ap (list_any (eq_by_cmp nat_cmp q)) (cond-false (eqb r 0) _ _ nz)
    ∙ or_left _ _ (itself q (pair s r) (h.is ∙ ap (λ t. pair t r) (omega arith)))
raw_coupons_have (r ∷ R) s q (suc i) h =
    let rest : list_any (eq_by_cmp nat_cmp q) (raw_coupons_from (s + 1) R) ≡ true = raw_coupons_have R (s + 1) q i (record { within = omega (arith, h.within); positive = h.positive; is = h.is ∙ ap (λ t. pair t (get_or R i 0)) (omega arith) }) in
    elim (eqb r 0) as (λ b. list_any (eq_by_cmp nat_cmp q) (cond b (raw_coupons_from (s + 1) R) (pair s r ∷ raw_coupons_from (s + 1) R)) ≡ true) [ true ↦ rest | false ↦ or_right _ _ rest ]

pub pairs_only : (R : List ℕ) (q : ℕ) → contains (pairs R) q ≡ true → (i : ℕ) × StandsFor R 0 q i
pairs_only R q e = in_raw_coupons R 0 q (sym (contains-from_list nat_cmp_total (raw_coupons_from 0 R) q) ∙ e)

pub pairs_have : (R : List ℕ) (q i : ℕ) → StandsFor R 0 q i → contains (pairs R) q ≡ true
pairs_have R q i h = contains-from_list nat_cmp_total (raw_coupons_from 0 R) q ∙ raw_coupons_have R 0 q i h

-- ---- a pair's parts

pub slot_of-pair : (s v : ℕ) → s < 2 ^ 26 → slot_of (pair s v) ≡ s
slot_of-pair s v h = mod-mul-add v (2 ^ 26) s h

pub value_of-pair : (s v : ℕ) → s < 2 ^ 26 → value_of (pair s v) ≡ v
value_of-pair s v h = div-mul-add v (2 ^ 26) s h

pub value_at_same : (e s c : ℕ) → slot_of c % 2 ^ e ≡ s → value_at e s c ≡ value_of c
value_at_same e s c h = cond-true _ _ _ (eq-eqb _ _ h)

pub value_at_cases : (e s c : ℕ) → (value_at e s c ≡ 0) ⊎ ((slot_of c % 2 ^ e ≡ s) × (value_at e s c ≡ value_of c))
value_at_cases e s c = elim (cases_Bool (eqb (slot_of c % 2 ^ e) s)) [
  | inl t ↦ let h : slot_of c % 2 ^ e ≡ s = eqb-true _ _ t in inr (h, value_at_same e s c h)
  | inr f ↦ inl (cond-false _ _ _ f)
]

pub folds_again : (n k e : ℕ) → e ≤ k → n % 2 ^ k % 2 ^ e ≡ n % 2 ^ e
folds_again n k e h = ap (λ m. n % 2 ^ m % 2 ^ e) (let s : k ≡ k - e + e = omega arith in s) ∙ mod-mod-pow n (k - e) e

-- the slot of a register is small enough for a coupon
pub slot_small : (k s : ℕ) → k ≤ 21 → s < 2 ^ k → s < 2 ^ 26
slot_small k s h l = omega (arith, pow_below k 26 (omega arith))

-- ---- the laws

-- a slot of the larger fold has at most the value of the slot that it folds to
finer_le : (P : Pairs) (k e i s : ℕ) → e ≤ k → i % 2 ^ e ≡ s → greatest (value_at k i) (items P) ≤ greatest (value_at e s) (items P)
finer_le P k e i s le to_s = bounded (value_at k i) _ P (λ c e'. elim (value_at_cases k i c) [
  | inl z ↦ omega arith
  | inr h ↦
      let same : slot_of c % 2 ^ e ≡ s = sym (folds_again (slot_of c) k e le) ∙ ap (λ n. n % 2 ^ e) h.0 ∙ to_s in
      let there : value_at e s c ≡ value_of c = value_at_same e s c same in
      let most : value_at e s c ≤ greatest (value_at e s) (items P) = reached (value_at e s) c P e' in
      omega (arith, h.1)
])

-- the pairs of a fold have the same greatest value at a slot as the set
greatest-pairs-fold_to : (P : Pairs) (k e s : ℕ) → e ≤ k → k ≤ 21 → greatest (value_at e s) (items (pairs (fold_to P k))) ≡ greatest (value_at e s) (items P)
greatest-pairs-fold_to P k e s le small =
    let whole : ℕ = greatest (value_at e s) (items P) in
    let again : ℕ = greatest (value_at e s) (items (pairs (fold_to P k))) in
    let below : again ≤ whole = bounded (value_at e s) whole (pairs (fold_to P k)) (λ q e'.
    let found : (i : ℕ) × StandsFor (fold_to P k) 0 q i = pairs_only (fold_to P k) q e' in
    elim (value_at_cases e s q) [
      | inl z ↦ omega arith
      | inr h ↦
          let i : ℕ = found.0 in
          let within : i < 2 ^ k = omega (arith, found.1.within, length-fold_to P k) in
          let small_i : i < 2 ^ 26 = slot_small k i small within in
          let v : ℕ = get_or (fold_to P k) i 0 in
          let is : q ≡ pair i v = found.1.is ∙ ap (λ t. pair t v) (zero-add i) in
          let slot : slot_of q ≡ i = ap slot_of is ∙ slot_of-pair i v small_i in
          let value : value_of q ≡ v = ap value_of is ∙ value_of-pair i v small_i in
          let at : v ≡ greatest (value_at k i) (items P) = get_or-fold_to P k i within in
          let le' : greatest (value_at k i) (items P) ≤ whole = finer_le P k e i s le (ap (λ n. n % 2 ^ e) (sym slot) ∙ h.0) in
          omega (arith, h.1)
    ]) in
    let above : whole ≤ again = bounded (value_at e s) again P (λ c e'. elim (value_at_cases e s c) [
      | inl z ↦ omega arith
      | inr h ↦
          let t : ℕ = slot_of c % 2 ^ k in
          let within : t < 2 ^ k = mod_below (slot_of c) (2 ^ k) (pow_pos k) in
          let small_t : t < 2 ^ 26 = slot_small k t small within in
          let v : ℕ = get_or (fold_to P k) t 0 in
          let at : v ≡ greatest (value_at k t) (items P) = get_or-fold_to P k t within in
          let most : value_at k t c ≤ greatest (value_at k t) (items P) = reached (value_at k t) c P e' in
          let there : value_at k t c ≡ value_of c = value_at_same k t c refl in
          elim (cases_lt 0 v) [
            | inr none ↦ omega (arith, h.1)
            | inl some ↦
                let is_pair : contains (pairs (fold_to P k)) (pair t v) ≡ true = pairs_have (fold_to P k) (pair t v) t (record { within = omega (arith, length-fold_to P k); positive = some; is = ap (λ n. pair n v) (sym (zero-add t)) }) in
                let slot : slot_of (pair t v) % 2 ^ e ≡ s = ap (λ n. n % 2 ^ e) (slot_of-pair t v small_t) ∙ folds_again (slot_of c) k e le ∙ h.0 in
                let value : value_at e s (pair t v) ≡ v = value_at_same e s (pair t v) slot ∙ value_of-pair t v small_t in
                let last : value_at e s (pair t v) ≤ again = reached (value_at e s) (pair t v) (pairs (fold_to P k)) is_pair in
                omega (arith, h.1)
          ]
    ]) in
    omega arith

pub fold_to-pairs-fold_to : (P : Pairs) (k e : ℕ) → e ≤ k → k ≤ 21 → fold_to (pairs (fold_to P k)) e ≡ fold_to P e
fold_to-pairs-fold_to P k e le small = is_fold_to (fold_to (pairs (fold_to P k)) e) P e (length-fold_to (pairs (fold_to P k)) e) (λ s h. get_or-fold_to (pairs (fold_to P k)) e s h ∙ greatest-pairs-fold_to P k e s le small)

-- registers are the fold of their pairs
pub fold_to-pairs : (R : List ℕ) (k : ℕ) → k ≤ 21 → length R ≡ 2 ^ k → fold_to (pairs R) k ≡ R
fold_to-pairs R k small len = sym (is_fold_to R (pairs R) k len (λ s h.
    let v : ℕ = get_or R s 0 in
    let small_s : s < 2 ^ 26 = slot_small k s small h in
    let below : greatest (value_at k s) (items (pairs R)) ≤ v = bounded (value_at k s) v (pairs R) (λ q e'.
    let found : (i : ℕ) × StandsFor R 0 q i = pairs_only R q e' in
    elim (value_at_cases k s q) [
      | inl z ↦ omega arith
      | inr m ↦
          let i : ℕ = found.0 in
          let w : ℕ = get_or R i 0 in
          let within : i < 2 ^ k = omega (arith, found.1.within) in
          let is : q ≡ pair i w = found.1.is ∙ ap (λ t. pair t w) (zero-add i) in
          let slot : slot_of q ≡ i = ap slot_of is ∙ slot_of-pair i w (slot_small k i small within) in
          let value : value_of q ≡ w = ap value_of is ∙ value_of-pair i w (slot_small k i small within) in
          let same : i ≡ s = sym (mod-eq_of_lt within) ∙ ap (λ n. n % 2 ^ k) (sym slot) ∙ m.0 in
          omega (arith, m.1, ap (λ n. get_or R n 0) same)
    ]) in
    let above : v ≤ greatest (value_at k s) (items (pairs R)) = elim (cases_lt 0 v) [
      | inr none ↦ omega arith
      | inl some ↦
          let is_pair : contains (pairs R) (pair s v) ≡ true = pairs_have R (pair s v) s (record { within = omega arith; positive = some; is = ap (λ n. pair n v) (sym (zero-add s)) }) in
          let slot : slot_of (pair s v) % 2 ^ k ≡ s = ap (λ n. n % 2 ^ k) (slot_of-pair s v small_s) ∙ mod-eq_of_lt h in
          let value : value_at k s (pair s v) ≡ v = value_at_same k s (pair s v) slot ∙ value_of-pair s v small_s in
          omega (arith, reached (value_at k s) (pair s v) (pairs R) is_pair)
    ] in
    omega arith))

-- ---- a set from a list: its fold computes from the list

pub fold_to-set_of : (cs : List ℕ) (e : ℕ) → fold_to (set_of cs) e ≡ map (λ s. greatest (value_at e s) cs) (range_with_len 0 (2 ^ e))
fold_to-set_of cs e = sym (is_fold_to (map (λ s. greatest (value_at e s) cs) (range_with_len 0 (2 ^ e))) (set_of cs) e
    (length-map-range_with_len (λ s. greatest (value_at e s) cs) 0 (2 ^ e))
    (λ s h. get_or-map-range_with_len (λ s. greatest (value_at e s) cs) 0 (2 ^ e) s s 0 h (omega arith) ∙ greatest-set_of (value_at e s) cs))
