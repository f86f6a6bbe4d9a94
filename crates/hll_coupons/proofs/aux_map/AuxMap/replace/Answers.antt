-- SPDX-License-Identifier: Apache-2.0
use Rattle.std.proofs.Common.{arith, ℕ, ◌≡◌, ◌≢◌, ◌^◌, ◌<◌, ◌≤◌, ◌∙◌, None, Some, eqb, cond, refl, sym, ap, subst, length, get_or, set}
use Rattle.hll_coupons.specs.AuxMap.{ExceptionMap, IsMap, value_in, with_value}
use Rattle.hll_coupons.specs.Pair.{slot_of, pair}
use Rattle.hll_coupons.specs.Probe.{EndsAt}
use Rattle.hll_coupons.specs.Table.{Table, IsTable, coupons_in}
use Rattle.hll_coupons.proofs.MapChanges.{IsRawCoupon, raw_coupon_of, map_replaced, replaced_buckets, values_replaced}
use Rattle.hll_coupons.proofs.Maps.{value_at_empty, value_in_full}
use Rattle.hll_coupons.proofs.Putting.{ends_as, passes_as}
use Rattle.hll_coupons.proofs.Searching.{keys_are_distinct}
use Rattle.hll_coupons.proofs.TableLemmas.{full_of_valued}
use Rattle.hll_coupons.proofs.aux_map.AuxMap.replace.Goals as goal

pub unreachable-requires : goal.unreachable-requires
unreachable-requires g c =
    c.requires.present (ap (λ m. value_in m c.args.slot) (sym c.self.view_is)
    ∙ value_in_full _ c.self.invariant c.args.slot (passes_as slot_of _ _ _ _ _ _ c.lg_size.ensures.size c.buckets-buckets.ensures.buckets refl c.in_default.ensures.full))

-- the bucket where the search for the slot ends
record Spot (m : ExceptionMap) (slot bucket : ℕ) : Type 0 where
  within : bucket < length m.table.buckets
  full : get_or m.table.buckets bucket 0 ≢ 0
  at : slot_of (get_or m.table.buckets bucket 0) ≡ slot

spot : (m now : ExceptionMap) (slot bucket : ℕ) → m ≡ now → IsMap m → EndsAt slot_of m.table.lg_size m.table.buckets slot bucket → value_in now slot ≢ None → Spot m slot bucket
spot m now slot bucket same is ends some =
    let full : get_or m.table.buckets bucket 0 ≢ 0 = λ z. some (ap (λ n. value_in n slot) (sym same) ∙ value_at_empty m is slot bucket ends z) in
    record { within = omega (arith, ends.within, is.probed.size); full = full; at = ends.same full }

pub replace-requires-clause-filled : goal.replace-requires-clause-filled
replace-requires-clause-filled g c =
    (spot _ _ c.args.slot c.in-Some.bucket c.self.view_is c.self.invariant (ends_as slot_of _ _ _ _ _ _ _ c.lg_size.ensures.size c.buckets-buckets.ensures.buckets refl c.in-Some.ensures.found) c.requires.present).full

pub replace-requires-clause-others : goal.replace-requires-clause-others
replace-requires-clause-others g c p within other is =
    let m : ExceptionMap = record { lg_k = c.self.inside.lg_config_k; table = c.self.inside.table } in
    let s = spot m _ c.args.slot c.in-Some.bucket c.self.view_is c.self.invariant (ends_as slot_of _ _ _ _ _ _ _ c.lg_size.ensures.size c.buckets-buckets.ensures.buckets refl c.in-Some.ensures.found) c.requires.present in
    let w : IsRawCoupon c.args.slot c.args.value c.pack.result = raw_coupon_of m.lg_k c.args.slot c.args.value c.pack.result c.self.invariant.high (subst (λ (n : ExceptionMap). c.args.slot < 2 ^ n.lg_k) (sym c.self.view_is) c.requires.within) c.pack.ensures in
    let some : 0 < c.pack.result = full_of_valued c.pack.result (omega (arith, w.value, c.requires.least)) in
    other (keys_are_distinct slot_of m.table.lg_size m.table.buckets p c.in-Some.bucket c.self.invariant.probed within s.within (λ z. omega (arith, some, sym is ∙ z)) s.full (ap slot_of is ∙ w.slot ∙ sym s.at))

-- the table after the replacement
record Left (m : ExceptionMap) (slot value : ℕ) (t : Table) : Type 0 where
  is_map : IsMap (record { lg_k = m.lg_k; table = t })
  buckets : record { lg_k = m.lg_k; table = t } ≡ with_value m slot value
  values : (s : ℕ) → value_in (record { lg_k = m.lg_k; table = t }) s ≡ cond (eqb s slot) (Some value) (value_in m s)

left : (m now : ExceptionMap) (slot value bucket w : ℕ) (t : Table) → m ≡ now → IsMap m → EndsAt slot_of m.table.lg_size m.table.buckets slot bucket → value_in now slot ≢ None → slot < 2 ^ now.lg_k → 1 ≤ value →
    w ≡ pair (slot_of slot) value → t ≡ record { lg_size = m.table.lg_size; buckets = set m.table.buckets bucket w } → IsTable t → length (coupons_in t.buckets) ≡ length (coupons_in m.table.buckets) → Left m slot value t
left m now slot value bucket w t same is ends some within least raw_coupon new table count =
    let s = spot m now slot bucket same is ends some in
    let below : slot < 2 ^ m.lg_k = subst (λ (n : ExceptionMap). slot < 2 ^ n.lg_k) (sym same) within in
    let k : IsRawCoupon slot value w = raw_coupon_of m.lg_k slot value w is.high below raw_coupon in
    let full : 0 < w = full_of_valued w (omega (arith, k.value, least)) in
    let there : Table = record { lg_size = m.table.lg_size; buckets = set m.table.buckets bucket w } in
    let is_map : IsMap (record { lg_k = m.lg_k; table = there }) =
    map_replaced m is slot value bucket s.within s.full s.at w k.is k.slot full below (subst IsTable new table) (ap (λ (u : Table). length (coupons_in u.buckets)) (sym new) ∙ count) in
    subst (Left m slot value) (sym new) (record {
      is_map = is_map;
      buckets = ap (λ ps. record { lg_k = m.lg_k; table = record { lg_size = m.table.lg_size; buckets = ps } }) (sym (replaced_buckets m is slot value bucket s.within s.full s.at w k.is k.slot full));
      values = values_replaced m is slot value bucket s.within s.full s.at w k.is k.slot full (record { lg_k = m.lg_k; table = there }) refl is_map k.value;
    })

pub invariant_of-self : goal.invariant_of-self
invariant_of-self g c =
    (left _ _ c.args.slot c.args.value c.in-Some.bucket c.pack.result c.replace.new.self c.self.view_is c.self.invariant
    (ends_as slot_of _ _ _ _ _ _ _ c.lg_size.ensures.size c.buckets-buckets.ensures.buckets refl c.in-Some.ensures.found) c.requires.present c.requires.within c.requires.least c.pack.ensures
    c.replace.ensures.buckets c.replace.ensures.table c.replace.ensures.count).is_map

pub returns-clause-buckets : goal.returns-clause-buckets
returns-clause-buckets g c =
    (left _ _ c.args.slot c.args.value c.in-Some.bucket c.pack.result c.replace.new.self c.self.view_is c.self.invariant
    (ends_as slot_of _ _ _ _ _ _ _ c.lg_size.ensures.size c.buckets-buckets.ensures.buckets refl c.in-Some.ensures.found) c.requires.present c.requires.within c.requires.least c.pack.ensures
    c.replace.ensures.buckets c.replace.ensures.table c.replace.ensures.count).buckets
    ∙ ap (λ m. with_value m c.args.slot c.args.value) c.self.view_is

pub returns-clause-values : goal.returns-clause-values
returns-clause-values g c s =
    (left _ _ c.args.slot c.args.value c.in-Some.bucket c.pack.result c.replace.new.self c.self.view_is c.self.invariant
    (ends_as slot_of _ _ _ _ _ _ _ c.lg_size.ensures.size c.buckets-buckets.ensures.buckets refl c.in-Some.ensures.found) c.requires.present c.requires.within c.requires.least c.pack.ensures
    c.replace.ensures.buckets c.replace.ensures.table c.replace.ensures.count).values s
    ∙ ap (λ m. cond (eqb s c.args.slot) (Some c.args.value) (value_in m s)) c.self.view_is

pub returns-clause-map : goal.returns-clause-map
returns-clause-map g c =
    (left _ _ c.args.slot c.args.value c.in-Some.bucket c.pack.result c.replace.new.self c.self.view_is c.self.invariant
    (ends_as slot_of _ _ _ _ _ _ _ c.lg_size.ensures.size c.buckets-buckets.ensures.buckets refl c.in-Some.ensures.found) c.requires.present c.requires.within c.requires.least c.pack.ensures
    c.replace.ensures.buckets c.replace.ensures.table c.replace.ensures.count).is_map
