-- SPDX-License-Identifier: Apache-2.0
use Rattle.std.proofs.Common.{◌≡◌, ◌<◌, ◌^◌, ◌∙◌, sym, ap, subst, length, slice_set, false}
use Rattle.std.specs.FinSet.{contains}
use Rattle.hll_coupons.specs.Pair.{set_of}
use Rattle.hll_coupons.specs.Table.{Table, coupons_of, coupons_in, coupons_with, filled_from_front, IsFilledFromFront}
use Rattle.hll_coupons.proofs.Members.{set_of-coupons_with}
use Rattle.hll_coupons.proofs.TableLemmas.{buckets-put, coupons_in-coupons_with, coupons_in-filled_from_front, IsFilledFromFront-front, full_of_valued}
use Rattle.hll_coupons.proofs.list.List.push.Given.{Over}
use Rattle.hll_coupons.proofs.list.List.push.Goals as goal

-- the table that put leaves
after : (g : Over) (c : goal.After-put g) → c.put.new.self ≡ filled_from_front c.args.self.now.lg_size (coupons_with (coupons_in c.args.self.now.buckets) c.args.coupon)
after g c =
    let t : Table = c.self.inside.container in
    let fresh : contains (coupons_of t) c.args.coupon ≡ false = ap (λ u. contains (coupons_of u) c.args.coupon) c.self.view_is ∙ c.requires.fresh in
    let room : length (coupons_in t.buckets) < 2 ^ t.lg_size = subst (λ (u : Table). length (coupons_in u.buckets) < 2 ^ u.lg_size) (sym c.self.view_is) c.requires.room in
    c.put.ensures.buckets
    ∙ ap (λ n. record { lg_size = t.lg_size; buckets = slice_set t.buckets n c.args.coupon }) c.len-bucket.ensures.count
    ∙ buckets-put t c.args.coupon c.self.invariant fresh room
    ∙ ap (λ (u : Table). filled_from_front u.lg_size (coupons_with (coupons_in u.buckets) c.args.coupon)) c.self.view_is

-- the coupons of the list afterwards
order : (g : Over) (c : goal.After-put g) → coupons_in c.put.new.self.buckets ≡ coupons_with (coupons_in c.args.self.now.buckets) c.args.coupon
order g c =
    let t : Table = c.args.self.now in
    ap (λ (u : Table). coupons_in u.buckets) (after g c)
    ∙ coupons_in-filled_from_front t.lg_size _ (coupons_in-coupons_with t.buckets c.args.coupon (full_of_valued c.args.coupon c.requires.valued))

pub invariant_of-self : goal.invariant_of-self
invariant_of-self g c =
    let t : Table = c.args.self.now in
    subst IsFilledFromFront (sym (after g c))
    (IsFilledFromFront-front t.lg_size _ (coupons_in-coupons_with t.buckets c.args.coupon (full_of_valued c.args.coupon c.requires.valued)))

pub returns-clause-buckets : goal.returns-clause-buckets
returns-clause-buckets g c = after g c

pub returns-clause-order : goal.returns-clause-order
returns-clause-order g c = order g c

pub returns-clause-members : goal.returns-clause-members
returns-clause-members g c = ap set_of (order g c) ∙ set_of-coupons_with (coupons_in c.args.self.now.buckets) c.args.coupon
