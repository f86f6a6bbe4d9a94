-- SPDX-License-Identifier: Apache-2.0
-- A register is read back from its nibble and the exceptions.
use Rattle.std.proofs.Common.{◌≡◌, ℕ, ◌+◌, ◌%◌, ◌^◌, ◌<◌, ◌≤◌, Bool, true, false, cond, eqb, leb, List, [], ◌∷◌, All, Option, Some, None, length, get_or, filter, refl, sym, ap, ◌∙◌, arith, inl, inr}
use Rattle.std.specs.Prelude.{find}
use Rattle.std.specs.Option.{option_map}
use Rattle.std.specs.Ordering.{nat_cmp, eq_by_cmp}
use Rattle.std.specs.Cmp.{nat_cmp_total}
use Rattle.std.specs.FinSet.{contains, contains-from_list}
use Rattle.std.proofs.lemmas.Bool.{cases_Bool, cases_lt, eqb-true, eq-eqb, leb-true, le-leb, or_cases, or_left, or_right, cond-true, cond-false, true≢false}
use Rattle.std.proofs.Math.Nat.{mod-eq_of_lt, zero-add}
use Rattle.hll_coupons.specs.Pair.{pair, slot_of, value_of, set_of}
use Rattle.hll_coupons.specs.Fold.{raw_coupons_from}
use Rattle.hll_coupons.proofs.Greatest.{same_raw_coupon}
use Rattle.hll_coupons.proofs.Listed.{has, finds, finds_none}
use Rattle.hll_coupons.proofs.Registers.{StandsFor, in_raw_coupons, raw_coupons_have, slot_of-pair, value_of-pair, slot_small}
use Rattle.hll_kernels.specs.Packed.{nibble}
use Rattle.hll_registers.specs.Exceptions.{exceptions_above}
use Rattle.hll_coupons.specs.AuxMap.{entry_at}
use Rattle.hll_registers.specs.Payload.{Agrees, register_of}

-- the elements of a filtered list
pub kept : (p : ℕ → Bool) (q : ℕ) (xs : List ℕ) → has q (filter p xs) ≡ true → (p q ≡ true) × (has q xs ≡ true)
kept p q [] h = absurd (true≢false (sym h))
kept p q (x ∷ xs) h = elim (cases_Bool (p x)) [
  | inl t ↦ elim (or_cases (eq_by_cmp nat_cmp q x) (has q (filter p xs)) (sym (ap (has q) (cond-true (p x) (x ∷ filter p xs) (filter p xs) t)) ∙ h)) [
    | inl e ↦ (ap p (same_raw_coupon q x e) ∙ t, or_left (eq_by_cmp nat_cmp q x) (has q xs) e)
    | inr l ↦ let r = kept p q xs l in (r.0, or_right (eq_by_cmp nat_cmp q x) (has q xs) r.1)
  ]
  | inr f ↦ let r = kept p q xs (sym (ap (has q) (cond-false (p x) (x ∷ filter p xs) (filter p xs) f)) ∙ h) in (r.0, or_right (eq_by_cmp nat_cmp q x) (has q xs) r.1)
]

pub keeps : (p : ℕ → Bool) (q : ℕ) (xs : List ℕ) → p q ≡ true → has q xs ≡ true → has q (filter p xs) ≡ true
keeps p q [] t h = absurd (true≢false (sym h))
keeps p q (x ∷ xs) t h = elim (or_cases (eq_by_cmp nat_cmp q x) (has q xs) h) [
  | inl e ↦ ap (has q) (cond-true (p x) (x ∷ filter p xs) (filter p xs) (ap p (sym (same_raw_coupon q x e)) ∙ t)) ∙ or_left (eq_by_cmp nat_cmp q x) (has q (filter p xs)) e
  | inr l ↦
      let rest : has q (filter p xs) ≡ true = keeps p q xs t l in
      elim (p x) as (λ b. has q (cond b (x ∷ filter p xs) (filter p xs)) ≡ true) [ true ↦ or_right (eq_by_cmp nat_cmp q x) (has q (filter p xs)) rest | false ↦ rest ]
]

module _ (k m : ℕ) (R o : List ℕ) (small : k ≤ 21) (len : length R ≡ 2 ^ k) (top : All (λ v. v ≤ 63) R) (lists : set_of o ≡ set_of (exceptions_above m R)) where
  same_has : (q : ℕ) → has q o ≡ has q (exceptions_above m R)
  same_has q = sym (contains-from_list nat_cmp_total o q) ∙ ap (λ T. contains T q) lists ∙ contains-from_list nat_cmp_total (exceptions_above m R) q

  -- an entry with this slot is the register's
  entry : (s c : ℕ) → has c o ≡ true → eqb (slot_of c % 2 ^ k) s ≡ true → (value_of c ≡ get_or R s 0) × (m + 15 ≤ get_or R s 0)
  entry s c h at =
      let parts = kept (λ c. leb (m + 15) (value_of c)) c (raw_coupons_from 0 R) (sym (same_has c) ∙ h) in
      let found : (i : ℕ) × StandsFor R 0 c i = in_raw_coupons R 0 c parts.1 in
      let i : ℕ = found.0 in
      let within : i < 2 ^ k = omega (arith, found.1.within) in
      let is : c ≡ pair i (get_or R i 0) = found.1.is ∙ ap (λ t. pair t (get_or R i 0)) (zero-add i) in
      let slot : slot_of c ≡ i = ap slot_of is ∙ slot_of-pair i (get_or R i 0) (slot_small k i small within) in
      let value : value_of c ≡ get_or R i 0 = ap value_of is ∙ value_of-pair i (get_or R i 0) (slot_small k i small within) in
      let same : i ≡ s = sym (ap (λ n. n % 2 ^ k) slot ∙ mod-eq_of_lt within) ∙ eqb-true (slot_of c % 2 ^ k) s at in
      let there : value_of c ≡ get_or R s 0 = value ∙ ap (λ j. get_or R j 0) same in
      (there, omega (arith, leb-true (m + 15) (value_of c) parts.0))

  has_entry : (s : ℕ) → s < 2 ^ k → m + 15 ≤ get_or R s 0 → (has (pair s (get_or R s 0)) o ≡ true) × (eqb (slot_of (pair s (get_or R s 0)) % 2 ^ k) s ≡ true)
  has_entry s h high =
      let v : ℕ = get_or R s 0 in
      let value : value_of (pair s v) ≡ v = value_of-pair s v (slot_small k s small h) in (
        same_has (pair s v) ∙ keeps (λ c. leb (m + 15) (value_of c)) (pair s v) (raw_coupons_from 0 R) (le-leb (m + 15) (value_of (pair s v)) (omega arith))
            (raw_coupons_have R 0 (pair s v) s (record { within = omega arith; positive = omega arith; is = ap (λ n. pair n v) (sym (zero-add s)) })),
        eq-eqb (slot_of (pair s v) % 2 ^ k) s (ap (λ n. n % 2 ^ k) (slot_of-pair s v (slot_small k s small h)) ∙ mod-eq_of_lt h),
      )

  -- the register of a nibble and an entry
  pub register_back : (s : ℕ) → s < 2 ^ k → m ≤ get_or R s 0 → Agrees m (nibble m (get_or R s 0)) (entry_at k o s) × (register_of m (nibble m (get_or R s 0)) (entry_at k o s) ≡ get_or R s 0)
  register_back s h low = of (find (λ c. eqb (slot_of c % 2 ^ k) s) o) refl
    where
      v : ℕ
      v = get_or R s 0

      most : v ≤ 63
      most = top s 0 (omega arith)

      of : (found : Option ℕ) → find (λ c. eqb (slot_of c % 2 ^ k) s) o ≡ found → Agrees m (nibble m v) (option_map value_of found) × (register_of m (nibble m v) (option_map value_of found) ≡ v)
      of None e = elim (cases_lt v (m + 15)) [
        | inl under ↦ ((omega arith, omega (arith, most)), omega arith)
        | inr high ↦ let there = has_entry s h high in absurd (finds_none (λ c. eqb (slot_of c % 2 ^ k) s) o (pair s v) e there.0 there.1)
      ]
      of (Some c) e =
          let r = finds (λ c. eqb (slot_of c % 2 ^ k) s) o c e in
          let is = entry s c r.0 r.1 in
          ((omega (arith, is.1), omega (arith, is.0, is.1)), is.0)
