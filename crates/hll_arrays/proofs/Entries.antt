-- SPDX-License-Identifier: Apache-2.0
-- The exceptions of registers as entries of an image: each slot occurs once.
use Rattle.std.proofs.Common.{◌≡◌, ℕ, ◌+◌, ◌%◌, ◌^◌, ◌<◌, ◌≤◌, true, false, cond, eqb, List, [], ◌∷◌, length, get_or, All, sym, ap, ◌∙◌, arith}
use Rattle.std.specs.Prelude.{nat_le}
use Rattle.std.specs.Cmp.{nat_cmp_total}
use Rattle.std.specs.FinSet.{len, contains, contains-from_list}
use Rattle.std.proofs.lemmas.List.Sums.{count_by-le-length, length-filter}
use Rattle.std.proofs.lemmas.List.Elements.{All-from_get_or}
use Rattle.std.proofs.Math.Nat.{mod-eq_of_lt, zero-add}
use Rattle.hll_coupons.specs.Pair.{pair, slot_of, value_of, set_of}
use Rattle.hll_coupons.specs.Fold.{raw_coupons_from}
use Rattle.hll_coupons.specs.Coupons.{IsAscending}
use Rattle.hll_coupons.proofs.Ascending.{len-ascending}
use Rattle.hll_coupons.proofs.Listed.{has, has-at, Apart, len-map}
use Rattle.hll_coupons.proofs.Reading.{len-set_of-le}
use Rattle.hll_coupons.proofs.Registers.{StandsFor, in_raw_coupons, slot_of-pair, value_of-pair, slot_small}
use Rattle.hll_kernels.specs.Packed.{minimum}
use Rattle.hll_registers.specs.Exceptions.{exceptions}
use Rattle.hll_registers.specs.Payload.{AreEntries}
use Rattle.hll_registers.proofs.Exceptions.{kept}

length-raw_coupons_from : (s : ℕ) (R : List ℕ) → length (raw_coupons_from s R) ≤ length R
length-raw_coupons_from s [] = omega arith
length-raw_coupons_from s (r ∷ R) = elim (eqb r 0) as (λ b. length (cond b (raw_coupons_from (s + 1) R) (pair s r ∷ raw_coupons_from (s + 1) R)) ≤ length (r ∷ R)) [
  | true ↦ omega (arith, length-raw_coupons_from (s + 1) R)
  | false ↦ omega (arith, length-raw_coupons_from (s + 1) R)
]

-- ---- the exceptions in the order that is written

module _ (k : ℕ) (R order : List ℕ) (small : k ≤ 21) (size : length R ≡ 2 ^ k) (top : All (λ v. v ≤ 63) R) (lists : IsAscending order (set_of (exceptions R))) where
  -- an entry is the pair of a slot and its register
  record IsEntry (c : ℕ) : Type 0 where
    slot : ℕ
    within : slot < 2 ^ k
    is : c ≡ pair slot (get_or R slot 0)
    some : 0 < get_or R slot 0

  entry : (c : ℕ) → has c order ≡ true → IsEntry c
  entry c h =
      let there : has c (exceptions R) ≡ true = sym (contains-from_list nat_cmp_total (exceptions R) c) ∙ ap (λ S. contains S c) (sym lists.members) ∙ contains-from_list nat_cmp_total order c ∙ h in
      let found : (i : ℕ) × StandsFor R 0 c i = in_raw_coupons R 0 c (kept _ c (raw_coupons_from 0 R) there).1 in
      record {
        slot = found.0;
        within = omega (arith, found.1.within);
        is = found.1.is ∙ ap (λ t. pair t (get_or R found.0 0)) (zero-add found.0);
        some = found.1.positive;
      }

  slot-entry : (c : ℕ) (e : IsEntry c) → slot_of c % 2 ^ k ≡ e.slot
  slot-entry c e = ap (λ z. slot_of z % 2 ^ k) e.is ∙ ap (λ n. n % 2 ^ k) (slot_of-pair e.slot (get_or R e.slot 0) (slot_small k e.slot small e.within)) ∙ mod-eq_of_lt e.within

  apart : Apart (λ c. slot_of c % 2 ^ k) order
  apart c d hc hd same =
      let one : IsEntry c = entry c hc in
      let two : IsEntry d = entry d hd in
      let slots : one.slot ≡ two.slot = sym (slot-entry c one) ∙ same ∙ slot-entry d two in
      one.is ∙ (λ i. pair (slots i) (get_or R (slots i) 0)) ∙ sym two.is

  value-entry : (c : ℕ) → has c order ≡ true → (1 ≤ value_of c) × (c < 2 ^ 32)
  value-entry c h =
      let e : IsEntry c = entry c h in
      let v : ℕ = get_or R e.slot 0 in
      let most : v ≤ 63 = top e.slot 0 (omega (arith, e.within, size)) in
      let low : e.slot < 2 ^ 26 = slot_small k e.slot small e.within in
      let value : value_of c ≡ v = ap value_of e.is ∙ value_of-pair e.slot v low in
      (omega (arith, e.some), omega (arith, e.is))

  pub entries_valued : All (λ c. 1 ≤ value_of c) order
  entries_valued = All-from_get_or (λ c. 1 ≤ value_of c) order 0 (λ i h. (value-entry (get_or order i 0) (has-at order i h)).0)

  pub entries_fit : All (λ c. c < 2 ^ 32) order
  entries_fit = All-from_get_or (λ c. c < 2 ^ 32) order 0 (λ i h. (value-entry (get_or order i 0) (has-at order i h)).1)

  pub are_entries : AreEntries k order
  are_entries = record { valued = entries_valued; distinct = len-map (λ c. slot_of c % 2 ^ k) order apart ∙ ap len lists.members ∙ sym (len-ascending order (set_of (exceptions R)) lists) }

  pub entries_few : length order ≤ 2 ^ k
  entries_few = omega (arith, len-ascending order (set_of (exceptions R)) lists, len-set_of-le (exceptions R), length-filter (λ c. nat_le (minimum R + 15) (value_of c)) (raw_coupons_from 0 R), count_by-le-length (λ c. nat_le (minimum R + 15) (value_of c)) (raw_coupons_from 0 R), length-raw_coupons_from 0 R)
