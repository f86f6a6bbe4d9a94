-- SPDX-License-Identifier: Apache-2.0
-- The maximum with 4-bit registers that have few exceptions: with their nibbles first, and then with each exception as a coupon.
use Rattle.std.proofs.Common.{◌≡◌, ℕ, suc, ◌+◌, ◌%◌, ◌^◌, ◌<◌, ◌≤◌, ◌==◌, true, false, cond, eqb, List, [], ◌∷◌, Option, Some, None, length, map, get_or, refl, sym, ap, ◌∙◌, arith, inl, inr}
use Rattle.std.specs.Prelude.{find, max, unwrap_or}
use Rattle.std.specs.Option.{option_map}
use Rattle.std.specs.List.{list_all}
use Rattle.std.specs.Cmp.{nat_cmp_total}
use Rattle.std.specs.FinSet.{contains, len, len-insert}
use Rattle.std.proofs.lemmas.Bool.{cases_Bool, cases_eq, cond-true, cond-false, eq-eqb, eqb-true, ne_eqb, true≢false, false_from_ne_true}
use Rattle.std.proofs.lemmas.List.{length-map}
use Rattle.std.proofs.lemmas.List.Elements.{All-tail}
use Rattle.std.proofs.lemmas.List.FromFn.{length-map-range_with_len, get_or-map-range_with_len}
use Rattle.std.proofs.lemmas.List.Sums.{AllPass-from_list_all}
use Rattle.std.proofs.lemmas.Nat.{mod_below, pow_pos}
use Rattle.std.proofs.Math.Nat.{zero-add}
use Rattle.hll_base.specs.Join.{join}
use Rattle.hll_base.proofs.Joins.{length-join, get_or-join, is_join}
use Rattle.hll_coupons.specs.AuxMap.{entry_at}
use Rattle.hll_coupons.specs.Fold.{fold_to, greatest, value_at}
use Rattle.hll_coupons.specs.Pair.{set_of, slot_of, value_of}
use Rattle.hll_coupons.proofs.Folds.{length-fold_to, get_or-fold_to}
use Rattle.hll_coupons.proofs.Greatest.{greatest-set_of}
use Rattle.hll_coupons.proofs.Listed.{has, contains-has, finds, finds_none, has-at, has-map}
use Rattle.hll_coupons.proofs.Reading.{len-set_of-le}
use Rattle.hll_kernels.specs.Lanes.{nibble_values}
use Rattle.hll_kernels.specs.Packed.{nibble_at}
use Rattle.hll_kernels.proofs.FourBitLanes.{length-nibble_values}
use Rattle.hll_registers.specs.Payload.{register_of, Agrees, AreEntries}
use Rattle.hll_registers.proofs.FourBitStores.{nibble_values-at}
use Rattle.hll_arrays.specs.FewExceptions.{registers_with, HasExceptions}

-- ---- entries as coupons

module _ (k : ℕ) where
  abbrev slot : ℕ → ℕ
  slot c = slot_of c % 2 ^ k

  -- the first of several entries has a slot of its own, and the others are entries
  first_apart : (c : ℕ) (L : List ℕ) → AreEntries k (c ∷ L) → (contains (set_of (map slot L)) (slot c) ≡ false) × AreEntries k L
  first_apart c L are =
      let n : ℕ = len (set_of (map slot L)) in
      let all : cond (contains (set_of (map slot L)) (slot c)) n (n + 1) ≡ suc (length L) = sym (len-insert nat_cmp_total (set_of (map slot L)) (slot c)) ∙ are.distinct in
      let few : n ≤ length L = omega (arith, len-set_of-le (map slot L), length-map L slot) in
      elim (cases_Bool (contains (set_of (map slot L)) (slot c))) [
        | inl there ↦ absurd (omega (arith, few, sym (cond-true _ n (n + 1) there) ∙ all))
        | inr lacks ↦ (lacks, record { valued = All-tail (λ c. 1 ≤ value_of c) c L are.valued; distinct = omega (arith, sym (cond-false _ n (n + 1) lacks) ∙ all) })
      ]

  -- no entry has a slot that is none of theirs
  lacks_entry : (L : List ℕ) (s : ℕ) → contains (set_of (map slot L)) s ≡ false → entry_at k L s ≡ None
  lacks_entry L s lacks = of (find (λ d. eqb (slot d) s) L) refl
    where
      of : (o : Option ℕ) → find (λ d. eqb (slot d) s) L ≡ o → option_map value_of o ≡ None
      of None found = refl
      of (Some d) found =
          let r = finds (λ d. eqb (slot d) s) L d found in
          let there : has s (map slot L) ≡ true = ap (λ q. has q (map slot L)) (sym (eqb-true (slot d) s r.1)) ∙ has-map slot L d r.0 in
          absurd (true≢false (sym there ∙ sym (contains-has (map slot L) s) ∙ lacks))

  -- the greatest value of the coupons of a slot is that of its entry
  greatest_entry : (L : List ℕ) → AreEntries k L → (s : ℕ) → greatest (value_at k s) L ≡ unwrap_or (entry_at k L s) 0
  greatest_entry [] are s = refl
  greatest_entry (c ∷ L) are s =
      let apart = first_apart c L are in
      let rest : greatest (value_at k s) L ≡ unwrap_or (entry_at k L s) 0 = greatest_entry L apart.1 s in
      elim (cases_eq (slot c) s) [
        | inl same ↦
            let none : unwrap_or (entry_at k L s) 0 ≡ 0 = ap (λ o. unwrap_or o 0) (lacks_entry L s (ap (contains (set_of (map slot L))) (sym same) ∙ apart.0)) in
            let own : value_at k s c ≡ value_of c = cond-true (eqb (slot c) s) (value_of c) 0 (eq-eqb (slot c) s same) in
            let found : unwrap_or (entry_at k (c ∷ L) s) 0 ≡ value_of c = ap (λ o. unwrap_or (option_map value_of o) 0) (cond-true (eqb (slot c) s) (Some c) (find (λ d. eqb (slot d) s) L) (eq-eqb (slot c) s same)) in
            omega (arith, rest, none, own, found)
        | inr other ↦
            let own : value_at k s c ≡ 0 = cond-false (eqb (slot c) s) (value_of c) 0 (ne_eqb (slot c) s other) in
            let passed : unwrap_or (entry_at k (c ∷ L) s) 0 ≡ unwrap_or (entry_at k L s) 0 =
            ap (λ o. unwrap_or (option_map value_of o) 0) (cond-false (eqb (slot c) s) (Some c) (find (λ d. eqb (slot d) s) L) (ne_eqb (slot c) s other)) in
            omega (arith, rest, own, passed)
      ]

-- ---- registers

module _ (k m : ℕ) (N L : List ℕ) (has_exceptions : HasExceptions k m N L) where
  abbrev R : List ℕ
  R = registers_with k m N L

  pub length-registers_with : length R ≡ 2 ^ k
  length-registers_with = length-map-range_with_len _ 0 (2 ^ k)

  register_at : (s : ℕ) → s < 2 ^ k → get_or R s 0 ≡ register_of m (nibble_at N s) (entry_at k L s)
  register_at s l = get_or-map-range_with_len (λ s. register_of m (nibble_at N s) (entry_at k L s)) 0 (2 ^ k) s s 0 l (zero-add s)

  greater_of_both : (n : ℕ) (o : Option ℕ) → Agrees m n o → max (m + n) (unwrap_or o 0) ≡ register_of m n o
  greater_of_both n None agree = omega arith
  greater_of_both n (Some v) agree = omega (arith, agree.0, agree.1)

  -- after the maximum with the nibbles and with the exceptions as coupons, they are the maximum with the registers
  pub with_coupons : (V W X : List ℕ) → length V ≡ 2 ^ k → W ≡ join V (nibble_values m N) → X ≡ join W (fold_to (set_of L) k) → X ≡ join V R
  with_coupons V W X size nibbles coupons =
      let Q : List ℕ = nibble_values m N in
      let F : List ℕ = fold_to (set_of L) k in
      let long : length W ≡ length V = ap length nibbles ∙ length-join V Q (omega (arith, size, length-nibble_values m N, has_exceptions.size)) in
      let longer : length X ≡ length V = ap length coupons ∙ length-join W F (omega (arith, long, size, length-fold_to (set_of L) k)) ∙ long in
      is_join V R X (size ∙ sym length-registers_with) longer (λ s h.
      let l : s < 2 ^ k = omega (arith, h, longer, size) in
      let both : get_or X s 0 ≡ max (get_or W s 0) (get_or F s 0) = ap (λ xs. get_or xs s 0) coupons ∙ get_or-join W F s in
      let first : get_or W s 0 ≡ max (get_or V s 0) (m + nibble_at N s) =
      ap (λ xs. get_or xs s 0) nibbles ∙ get_or-join V Q s ∙ ap (max (get_or V s 0)) (nibble_values-at m N s has_exceptions.fits (omega (arith, l, has_exceptions.size))) in
      let entry : get_or F s 0 ≡ unwrap_or (entry_at k L s) 0 = get_or-fold_to (set_of L) k s l ∙ sym (greatest-set_of (value_at k s) L) ∙ greatest_entry k L has_exceptions.are_entries s in
      omega (arith, both, first, entry, greater_of_both (nibble_at N s) (entry_at k L s) (has_exceptions.agree s l), register_at s l))

  -- a register with an exception is not 0
  pub not_all_zero : list_all (λ v. v == 0) R ≡ false
  not_all_zero = false_from_ne_true _ (λ all.
      let c : ℕ = get_or L 0 0 in
      let s : ℕ = slot k c in
      let l : s < 2 ^ k = mod_below (slot_of c) (2 ^ k) (pow_pos k) in
      let none : get_or R s 0 ≡ 0 = eqb-true (get_or R s 0) 0 (AllPass-from_list_all (λ v. v == 0) R all s 0 (omega (arith, l, length-registers_with))) in
      let some : entry_at k L s ≡ None → ⊥ = λ e. finds_none (λ d. eqb (slot k d) s) L c (not_found (find (λ d. eqb (slot k d) s) L) e) (has-at L 0 (omega (arith, has_exceptions.some))) (eq-eqb (slot k c) s refl) in
      of (nibble_at N s) (entry_at k L s) (sym (register_at s l) ∙ none) (has_exceptions.agree s l) some)
    where
      not_found : (o : Option ℕ) → option_map value_of o ≡ None → o ≡ None
      not_found None e = refl
      not_found (Some d) e = cc

      of : (n : ℕ) (o : Option ℕ) → register_of m n o ≡ 0 → Agrees m n o → (o ≡ None → ⊥) → ⊥
      of n None none agree some = some refl
      of n (Some v) none agree some = omega (arith, none, agree.1)
