-- SPDX-License-Identifier: Apache-2.0
use Rattle.std.proofs.Common.{arith, ℕ, ◌≡◌, ◌+◌, ◌^◌, ◌<◌, ◌∙◌, Some, eqb, cond, sym, ap, subst, length}
use Rattle.std.specs.FinSet.{insert}
use Rattle.hll_coupons.specs.AuxMap.{ExceptionMap, IsMap, Inserts, table_size, value_in}
use Rattle.hll_coupons.specs.Pair.{slot_of, pair}
use Rattle.hll_coupons.specs.Table.{coupons_in, coupons_of}
use Rattle.hll_coupons.proofs.MapChanges.{IsRawCoupon, raw_coupon_of, absent_raw_coupon, IsInserted, inserted_fits, inserted_grows, values_after}
use Rattle.hll_coupons.proofs.Maps.{map_size, room_in_map, size_doubled, small_table}
use Rattle.hll_coupons.proofs.aux_map.AuxMap.insert.Given.{Over}
use Rattle.hll_coupons.proofs.aux_map.AuxMap.insert.Goals as goal
use Rattle.hll_coupons.proofs.aux_map.AuxMap.insert.Goals.{then-len-capacity, else-len-capacity+in_ok-put_growing}

-- the raw coupon, of the map as it was
raw_coupon : (m now : ExceptionMap) (slot value w : ℕ) → m ≡ now → IsMap m → slot < 2 ^ now.lg_k → w ≡ pair (slot_of slot) value → IsRawCoupon slot value w
raw_coupon m now slot value w same is within e = raw_coupon_of m.lg_k slot value w is.high (subst (λ (n : ExceptionMap). slot < 2 ^ n.lg_k) (sym same) within) e

pub put_entry-requires-clause-absent : goal.put_entry-requires-clause-absent
put_entry-requires-clause-absent g c =
    absent_raw_coupon _ _ c.args.slot c.args.value _ c.self.view_is c.self.invariant (raw_coupon _ _ c.args.slot c.args.value _ c.self.view_is c.self.invariant c.requires.within c.pack-entry.ensures) c.requires.absent

pub put_growing-requires-clause-absent : goal.put_growing-requires-clause-absent
put_growing-requires-clause-absent g c =
    absent_raw_coupon _ _ c.args.slot c.args.value _ c.self.view_is c.self.invariant (raw_coupon _ _ c.args.slot c.args.value _ c.self.view_is c.self.invariant c.requires.within c.pack-entry.ensures) c.requires.absent

pub put_growing-requires-clause-room : goal.put_growing-requires-clause-room
put_growing-requires-clause-room g c = room_in_map _ c.self.invariant

pub put_growing-requires-clause-small : goal.put_growing-requires-clause-small
put_growing-requires-clause-small g c = omega (arith, small_table _ c.self.invariant)

pub invariant_of-self : goal.invariant_of-self
invariant_of-self g c =
    let is = raw_coupon _ _ c.args.slot c.args.value _ c.self.view_is c.self.invariant c.requires.within c.pack-entry.ensures in
    (inserted_fits _ c.self.invariant c.args.slot c.args.value c.pack-entry.result is c.requires.least
    (subst (λ (n : ExceptionMap). c.args.slot < 2 ^ n.lg_k) (sym c.self.view_is) c.requires.within)
    (absent_raw_coupon _ _ c.args.slot c.args.value _ c.self.view_is c.self.invariant is c.requires.absent)
    c.put_entry.new.table c.put_entry.ensures.table c.put_entry.ensures.size c.put_entry.ensures.buckets (omega (arith, c.if-len-capacity.true, c.len.ensures.count, c.capacity.ensures))).map

pub invariant_of-self-in-Continue-1 : goal.invariant_of-self-in-Continue-1
invariant_of-self-in-Continue-1 g c =
    let is = raw_coupon _ _ c.args.slot c.args.value _ c.self.view_is c.self.invariant c.requires.within c.pack-entry.ensures in
    let grown = c.in_ok-put_growing.ensures in
    (inserted_grows _ c.self.invariant c.args.slot c.args.value c.pack-entry.result is c.requires.least
    (subst (λ (n : ExceptionMap). c.args.slot < 2 ^ n.lg_k) (sym c.self.view_is) c.requires.within)
    (absent_raw_coupon _ _ c.args.slot c.args.value _ c.self.view_is c.self.invariant is c.requires.absent)
    c.put_growing.new.table grown.table grown.probed grown.members grown.count grown.ok (omega (arith, c.if-len-capacity.false, c.len.ensures.count, c.capacity.ensures))).map

pub returns-in_err-put_growing-clause-never : goal.returns-in_err-put_growing-clause-never
returns-in_err-put_growing-clause-never g c stays =
    let m : ExceptionMap = record { lg_k = c.self.inside.lg_config_k; table = c.self.inside.table } in
    let is : IsMap m = c.self.invariant in
    let doubled = size_doubled m.lg_k (length (coupons_in m.table.buckets)) m.table.lg_size (map_size m is) is.high (small_table m is) (omega (arith, c.if-len-capacity.false, c.len.ensures.count, c.capacity.ensures)) in
    let same : m.table.lg_size + 1 ≡ m.table.lg_size = sym doubled ∙ subst (λ (n : ExceptionMap). table_size n.lg_k (length (coupons_in n.table.buckets) + 1) ≡ n.table.lg_size) (sym c.self.view_is) stays in
    absurd (omega (arith, same))

-- the map after the insertion
inserted : (g : Over) (c : goal.Joined-len-capacity g) → IsInserted (record { lg_k = c.self.inside.lg_config_k; table = c.self.inside.table }) c.pack-entry.result c.if-len-capacity.self
inserted g c =
    let m : ExceptionMap = record { lg_k = c.self.inside.lg_config_k; table = c.self.inside.table } in
    let is = raw_coupon _ _ c.args.slot c.args.value _ c.self.view_is c.self.invariant c.requires.within c.pack-entry.ensures in
    let within = subst (λ (n : ExceptionMap). c.args.slot < 2 ^ n.lg_k) (sym c.self.view_is) c.requires.within in
    let none = absent_raw_coupon _ _ c.args.slot c.args.value _ c.self.view_is c.self.invariant is c.requires.absent in
    elim c.if-len-capacity.branch [
      | then-len-capacity w ↦
          subst (IsInserted m c.pack-entry.result) (sym w.self-is)
          (inserted_fits m c.self.invariant c.args.slot c.args.value c.pack-entry.result is c.requires.least within none
          w.put_entry.new.table w.put_entry.ensures.table w.put_entry.ensures.size w.put_entry.ensures.buckets (omega (arith, w.if-len-capacity.true, c.len.ensures.count, c.capacity.ensures)))
      | else-len-capacity+in_ok-put_growing w ↦
          let grown = w.in_ok-put_growing.ensures in
          subst (IsInserted m c.pack-entry.result) (sym w.self-is)
          (inserted_grows m c.self.invariant c.args.slot c.args.value c.pack-entry.result is c.requires.least within none
          w.put_growing.new.table grown.table grown.probed grown.members grown.count grown.ok (omega (arith, w.if-len-capacity.false, c.len.ensures.count, c.capacity.ensures)))
    ]

pub returns-clause-buckets : goal.returns-clause-buckets
returns-clause-buckets g c =
    let is = raw_coupon _ _ c.args.slot c.args.value _ c.self.view_is c.self.invariant c.requires.within c.pack-entry.ensures in
    subst (λ w. Inserts c.args.self.now.table w c.if-len-capacity.self.table) is.is
    (subst (λ (n : ExceptionMap). Inserts n.table c.pack-entry.result c.if-len-capacity.self.table) c.self.view_is (inserted g c).inserts)

pub returns-clause-members : goal.returns-clause-members
returns-clause-members g c =
    let is = raw_coupon _ _ c.args.slot c.args.value _ c.self.view_is c.self.invariant c.requires.within c.pack-entry.ensures in
    (inserted g c).members ∙ ap (insert (coupons_of c.self.inside.table)) is.is ∙ ap (λ (n : ExceptionMap). insert (coupons_of n.table) (pair c.args.slot c.args.value)) c.self.view_is

pub returns-clause-values : goal.returns-clause-values
returns-clause-values g c s =
    let is = raw_coupon _ _ c.args.slot c.args.value _ c.self.view_is c.self.invariant c.requires.within c.pack-entry.ensures in
    values_after (record { lg_k = c.self.inside.lg_config_k; table = c.self.inside.table }) c.if-len-capacity.self c.pack-entry.result c.self.invariant (inserted g c).map (inserted g c).members s
    ∙ (λ i. cond (eqb s (is.slot i)) (Some (is.value i)) (value_in (c.self.view_is i) s))

pub returns-clause-map : goal.returns-clause-map
returns-clause-map g c = (inserted g c).map
