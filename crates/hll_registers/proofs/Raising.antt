-- SPDX-License-Identifier: Apache-2.0
-- Lemmas on registers after one coupon.
use Rattle.std.proofs.Common.{◌≡◌, ℕ, ◌%◌, ◌^◌, ◌<◌, ◌≤◌, List, [], ◌∷◌, length, get_or, refl, sym, ap, ◌∙◌, arith, inl, inr}
use Rattle.std.specs.Prelude.{max}
use Rattle.std.proofs.Math.ListN.{set}
use Rattle.std.proofs.lemmas.Bool.{cases_eq}
use Rattle.std.proofs.lemmas.Nat.{mod_below, pow_pos}
use Rattle.std.proofs.lemmas.List.{length-set, get_or-set_same, get_or-set_other, get_or_default}
use Rattle.hll_coupons.specs.Pair.{slot_of, value_of, set_of}
use Rattle.hll_coupons.specs.Fold.{fold_to, value_at}
use Rattle.hll_base.specs.Join.{join}
use Rattle.hll_coupons.proofs.Folds.{length-fold_to, get_or-fold_to}
use Rattle.hll_coupons.proofs.Greatest.{greatest-set_of}
use Rattle.hll_base.proofs.Joins.{is_join}
use Rattle.hll_coupons.proofs.Registers.{value_at_cases, value_at_same}
use Rattle.hll_registers.specs.declared.estimate_state.EstimateState.{EstimateState}
use Rattle.hll_registers.specs.State.{cleared_state}
use Rattle.hll_registers.specs.Store.{Stored, update_with_coupon}
use Rattle.hll_registers.proofs.States.{state_after-same, state_after-other}

module _ (k : ℕ) (R : List ℕ) (c : ℕ) (size : length R ≡ 2 ^ k) where
  abbrev F : List ℕ
  F = fold_to (set_of (c ∷ [])) k

  abbrev t : ℕ
  t = slot_of c % 2 ^ k

  -- the fold of one coupon
  fold_at : (s : ℕ) → s < 2 ^ k → get_or F s 0 ≡ value_at k s c
  fold_at s h =
      let one : max (value_at k s c) 0 ≡ value_at k s c = omega arith in
      get_or-fold_to (set_of (c ∷ [])) k s h ∙ sym (greatest-set_of (value_at k s) (c ∷ [])) ∙ one

  same_size : length R ≡ length F
  same_size = size ∙ sym (length-fold_to (set_of (c ∷ [])) k)

  pub join-low : value_of c ≤ get_or R t 0 → R ≡ join R F
  join-low low = is_join R F R same_size refl (λ s h.
      let at : get_or F s 0 ≡ value_at k s c = fold_at s (omega (arith, size)) in
      elim (value_at_cases k s c) [
        | inl z ↦ omega arith
        | inr m ↦ omega (arith, ap (λ i. get_or R i 0) m.0, m.1)
      ])

  pub join-high : t < length R → get_or R t 0 ≤ value_of c → set R t (value_of c) ≡ join R F
  join-high within high = is_join R F (set R t (value_of c)) same_size (length-set R t (value_of c)) (λ s h.
      let at : get_or F s 0 ≡ value_at k s c = fold_at s (omega (arith, size, length-set R t (value_of c))) in
      elim (cases_eq s t) [
        | inl same ↦
            let there : value_at k s c ≡ value_of c = value_at_same k s c (sym same) in
            let wrote : get_or (set R t (value_of c)) s 0 ≡ value_of c = ap (λ i. get_or (set R t (value_of c)) i 0) same ∙ get_or-set_same R t (value_of c) 0 within in
            omega (arith, ap (λ i. get_or R i 0) same)
        | inr other ↦
            let none : value_at k s c ≡ 0 = elim (value_at_cases k s c) [ inl z ↦ z | inr m ↦ absurd (other (sym m.0)) ] in
            let kept : get_or (set R t (value_of c)) s 0 ≡ get_or R s 0 = get_or-set_other R t s (value_of c) 0 other in
            omega arith
      ])

  -- a coupon that is no greater changes nothing
  pub update_with_pairs-low : (state : EstimateState) → value_of c ≤ get_or R t 0 →
      let x : Stored = record { lg_k = k; registers = R; state = state } in x ≡ update_with_coupon x c
  update_with_pairs-low state low =
      let new : R ≡ join R F = join-low low in
      λ i. record { lg_k = k; registers = new i; state = sym (state_after-same R (join R F) state new) i }

  -- a greater coupon is written, and clears the state
  pub update_with_pairs-high : (state : EstimateState) → t < length R → get_or R t 0 < value_of c →
      let x : Stored = record { lg_k = k; registers = R; state = state } in
      let y : Stored = record { lg_k = k; registers = set R t (value_of c); state = cleared_state } in y ≡ update_with_coupon x c
  update_with_pairs-high state within high =
      let new : set R t (value_of c) ≡ join R F = join-high within (omega arith) in
      let other : R ≡ join R F → ⊥ = λ e. omega (arith, ap (λ (Q : List ℕ). get_or Q t 0) (e ∙ sym new), get_or-set_same R t (value_of c) 0 within) in
      λ i. record { lg_k = k; registers = new i; state = sym (state_after-other R (join R F) state other) i }

-- ---- one coupon, by the register that was read

module _ (k : ℕ) (R : List ℕ) (c : ℕ) (state : EstimateState) (size : length R ≡ 2 ^ k) (t old : ℕ) (at : t ≡ slot_of c % 2 ^ k) (is : old ≡ get_or R t old) where
  inside : slot_of c % 2 ^ k < length R
  inside = omega (arith, size, mod_below (slot_of c) (2 ^ k) (pow_pos k))

  read : old ≡ get_or R (slot_of c % 2 ^ k) 0
  read = is ∙ ap (λ i. get_or R i old) at ∙ get_or_default R (slot_of c % 2 ^ k) old 0 inside

  -- a register that is at least the coupon's value is kept
  pub update_with_pairs-kept : value_of c ≤ old → let x : Stored = record { lg_k = k; registers = R; state = state } in x ≡ update_with_coupon x c
  update_with_pairs-kept low = update_with_pairs-low k R c size state (omega (arith, low, read))

  -- a smaller register is replaced
  pub update_with_pairs-written : (v : ℕ) → v ≡ value_of c → old < value_of c →
      let x : Stored = record { lg_k = k; registers = R; state = state } in
      let y : Stored = record { lg_k = k; registers = set R t v; state = cleared_state } in y ≡ update_with_coupon x c
  update_with_pairs-written v same high =
      (λ i. record { lg_k = k; registers = set R (at i) (same i); state = cleared_state }) ∙ update_with_pairs-high k R c size state inside (omega (arith, high, read))

-- ---- maxima
