-- SPDX-License-Identifier: Apache-2.0
-- Exceptions that are read from raw coupons, one after the other.
use Rattle.std.proofs.Common.{◌≡◌, ◌≢◌, ℕ, ◌+◌, ◌*◌, ◌%◌, ◌^◌, ◌<◌, ◌≤◌, true, eqb, List, [], ◌∷◌, ◌++◌, All, Option, Some, None, length, map, refl, sym, ap, subst, ◌∙◌}
use Rattle.std.specs.Prelude.{find}
use Rattle.std.specs.Option.{option_map, option_or}
use Rattle.std.proofs.lemmas.Bool.{cond-false, eq-eqb, eqb-true, ne_eqb}
use Rattle.std.proofs.lemmas.List.Folds.{find-append}
use Rattle.std.proofs.lemmas.Nat.{mod_below, pow_pos}
use Rattle.hll_coupons.specs.AuxMap.{entry_at}
use Rattle.hll_coupons.specs.Pair.{slot_of, value_of}
use Rattle.hll_coupons.proofs.Listed.{has, finds, finds_none, has-from_map, From}
use Rattle.hll_coupons.proofs.Maps.{of_all}
use Rattle.hll_kernels.specs.Packed.{mark_nibbles, nibble_at}
use Rattle.hll_registers.specs.Payload.{Agrees, AreEntries}
use Rattle.hll_registers.proofs.Marked.{agree_each}

module _ (k : ℕ) (order : List ℕ) where
  abbrev slot : ℕ → ℕ
  slot c = slot_of c % 2 ^ k

  -- one more entry, at another slot
  pub entry_at-other : (c s : ℕ) → entry_at k order s ≡ None → slot c ≢ s → entry_at k (order ++ c ∷ []) s ≡ None
  entry_at-other c s none other =
      let gone : find (λ d. eqb (slot d) s) order ≡ None = of (find (λ d. eqb (slot d) s) order) none in
      let passed : find (λ d. eqb (slot d) s) (c ∷ []) ≡ None = cond-false (eqb (slot c) s) (Some c) None (ne_eqb (slot c) s other) in
      ap (option_map value_of) (find-append (λ d. eqb (slot d) s) order (c ∷ []) ∙ (λ i. option_or (gone i) (passed i)))
    where
      of : (o : Option ℕ) → option_map value_of o ≡ None → o ≡ None
      of None e = refl
      of (Some d) e = cc

  record IsEntryAt (s v : ℕ) : Type 0 where
    member : ℕ
    there : has member order ≡ true
    slot_is : slot member ≡ s
    value_is : value_of member ≡ v

  entry_of : (s v : ℕ) → entry_at k order s ≡ Some v → IsEntryAt s v
  entry_of s v = of (find (λ d. eqb (slot d) s) order) refl
    where
      of : (o : Option ℕ) → find (λ d. eqb (slot d) s) order ≡ o → option_map value_of o ≡ Some v → IsEntryAt s v
      of None found e = cc
      of (Some d) found e =
          let r = finds (λ d. eqb (slot d) s) order d found in
          record { member = d; there = r.0; slot_is = eqb-true (slot d) s r.1; value_is = cc }

  from_slots : (q : ℕ) → has q (map slot order) ≡ true → (v : ℕ) × (entry_at k order q ≡ Some v)
  from_slots q h = of (find (λ d. eqb (slot d) q) order) refl
    where
      of : (o : Option ℕ) → find (λ d. eqb (slot d) q) order ≡ o → (v : ℕ) × (entry_at k order q ≡ Some v)
      of None found =
          let r : From slot order q = has-from_map slot order q h in
          absurd (finds_none (λ d. eqb (slot d) q) order r.member found r.there (eq-eqb (slot r.member) q (sym r.is)))
      of (Some d) found = (value_of d, ap (option_map value_of) found)

  slot_within : (q v : ℕ) → entry_at k order q ≡ Some v → q < 2 ^ k
  slot_within q v is = let e : IsEntryAt q v = entry_of q v is in subst (λ n. n < 2 ^ k) e.slot_is (mod_below (slot_of e.member) (2 ^ k) (pow_pos k))

  -- if there is a nibble of 15 for each entry, and there are as many, they agree at each slot
  pub entries_agree : (m : ℕ) (bytes : List ℕ) → 2 * length bytes ≡ 2 ^ k → All (λ b. b < 256) bytes → AreEntries k order → mark_nibbles bytes ≡ length order →
      ((s : ℕ) → s < 2 * length bytes → nibble_at bytes s < 15 → m + nibble_at bytes s ≤ 63) → All (λ c. Agrees m (nibble_at bytes (slot c)) (Some (value_of c))) order →
      (s : ℕ) → s < 2 ^ k → Agrees m (nibble_at bytes s) (entry_at k order s)
  entries_agree m bytes size fits are many plain marked =
      agree_each k bytes size fits (entry_at k order) (map slot order) from_slots slot_within m (many ∙ sym are.distinct) plain (λ s v is.
      let e : IsEntryAt s v = entry_of s v is in
      subst (λ q. Agrees m (nibble_at bytes q) (Some v)) e.slot_is
      (subst (λ w. Agrees m (nibble_at bytes (slot e.member)) (Some w)) e.value_is (of_all (λ c. Agrees m (nibble_at bytes (slot c)) (Some (value_of c))) order marked e.member e.there)))
