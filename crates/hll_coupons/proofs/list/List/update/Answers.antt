-- SPDX-License-Identifier: Apache-2.0
use Rattle.std.proofs.Common.{arith, ℕ, ◌≡◌, ◌<◌, ◌≤◌, ◌^◌, false, sym, subst, length}
use Rattle.std.specs.FinSet.{contains, insert, len}
use Rattle.hll_coupons.specs.Table.{Table, coupons_in, coupons_of}
use Rattle.hll_coupons.proofs.Insertions.{within_buckets, taken}
use Rattle.hll_coupons.proofs.list.List.update.Given.{Over}
use Rattle.hll_coupons.proofs.list.List.update.Goals as goal

-- the list is left with no more coupons than buckets
few : (g : Over) (c : goal.After-update_within g) → len (insert (coupons_of c.args.self.now) c.args.coupon) ≤ c.capacity-most.result
few g c =
    let t : Table = c.self.inside.container in
    let w : ℕ = c.args.coupon in
    let room = subst (λ (u : Table). contains (coupons_of u) w ≡ false → length (coupons_in u.buckets) < 2 ^ u.lg_size) (sym c.self.view_is) c.requires.room in
    let few : len (insert (coupons_of t) w) ≤ 2 ^ t.lg_size = within_buckets t w c.table_is_legal.ensures.table c.table_is_legal.ensures.within room in
    subst (λ (u : Table). len (insert (coupons_of u) w) ≤ c.capacity-most.result) c.self.view_is (omega (arith, few, c.capacity-most.ensures))

pub returns-clause-buckets : goal.returns-clause-buckets
returns-clause-buckets g c = taken (coupons_of c.args.self.now) c.args.coupon c.capacity-most.result c.update_within.result _ c.update_within.ensures.insertion (few g c) c.update_within.ensures.buckets

pub returns-clause-order : goal.returns-clause-order
returns-clause-order g c = taken (coupons_of c.args.self.now) c.args.coupon c.capacity-most.result c.update_within.result _ c.update_within.ensures.insertion (few g c) c.update_within.ensures.order

pub returns-clause-members : goal.returns-clause-members
returns-clause-members g c = taken (coupons_of c.args.self.now) c.args.coupon c.capacity-most.result c.update_within.result _ c.update_within.ensures.insertion (few g c) c.update_within.ensures.members
