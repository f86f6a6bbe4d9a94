-- SPDX-License-Identifier: Apache-2.0
-- The entries of a map as pairs of a slot and a value.
use Rattle.std.proofs.Common.{◌≡◌, ℕ, true, ◌^◌, ◌<◌, ◌≤◌, List, All, Some, length, get_or, sym, ap, ◌∙◌, subst, arith}
use Rattle.std.proofs.lemmas.List.{length-map, get_or-map}
use Rattle.hll_coupons.specs.AuxMap.{ExceptionMap, IsMap, entry_of, entries_in, value_in}
use Rattle.hll_coupons.specs.Pair.{IsPair}
use Rattle.hll_coupons.specs.Table.{coupons_in}
use Rattle.hll_coupons.proofs.Listed.{has, has-at, at_index}
use Rattle.hll_coupons.proofs.MapChanges.{IsEntry, entry_of_value}
use Rattle.hll_coupons.proofs.Maps.{of_all, slot_below, value_found}

-- a slot and the value that the map has there
pub record IsEntryOf (t : ExceptionMap) (p : ℕ × ℕ) : Type 0 where
  pub value : value_in t p.0 ≡ Some p.1
  pub slot : p.0 < 2 ^ t.lg_k
  pub least : 1 ≤ p.1
  pub most : p.1 ≤ 63

pub entries_are : (t : ExceptionMap) → IsMap t → All (IsEntryOf t) (entries_in t)
entries_are t is i d l =
    let cs : List ℕ = coupons_in t.table.buckets in
    let within : i < length cs = omega (arith, l, length-map cs entry_of) in
    let c : ℕ = get_or cs i 0 in
    let there : has c cs ≡ true = has-at cs i within in
    let pair : IsPair c = of_all IsPair cs is.table.valued c there in
    subst (IsEntryOf t) (sym (get_or-map entry_of cs i 0 d within)) (record {
      value = value_found t is c there;
      slot = slot_below t is c there;
      least = pair.valued;
      most = pair.small;
    })

-- what holds for all entries holds for each value
pub of_value : (t : ExceptionMap) → IsMap t → (P : ℕ × ℕ → Type 0) → All P (entries_in t) → (s v : ℕ) → value_in t s ≡ Some v → P (s, v)
of_value t is P all s v e =
    let cs : List ℕ = coupons_in t.table.buckets in
    let entry : IsEntry t s v = entry_of_value t is s v e in
    let i = at_index cs entry.raw_coupon entry.there in
    subst P (get_or-map entry_of cs i.0 0 (0, 0) i.1 ∙ ap entry_of i.2 ∙ (λ j. (entry.slot j, entry.value j)))
    (all i.0 (0, 0) (omega (arith, i.1, length-map cs entry_of)))
