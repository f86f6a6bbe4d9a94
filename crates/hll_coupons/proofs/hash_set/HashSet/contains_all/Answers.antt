-- SPDX-License-Identifier: Apache-2.0
use Rattle.std.proofs.Common.{◌∙◌, sym, ap}
use Rattle.hll_coupons.specs.Table.{Table, coupons_in, coupons_of}
use Rattle.hll_coupons.proofs.Yielded.{given}
use Rattle.hll_coupons.proofs.Members.{is_subset-of_all, is_subset-of_missing}
use Rattle.hll_coupons.proofs.hash_set.HashSet.contains_all.Goals as goal

pub returns-then-not-contains : goal.returns-then-not-contains
returns-then-not-contains g c =
    is_subset-of_missing (coupons_of c.args.self.now) _ _ _ c.in-Some.coupon
    (given _ _ _ _ _ (c.into_iter-coupon-iterator.ensures.into_iter_gives ∙ c.iter-coupon-items.ensures ∙ ap (λ (t : Table). coupons_in t.buckets) c.other.view_is) c.loop-coupon.yielded_by c.in-Some.ensures.steps)
    (sym c.contains.ensures ∙ c.if-not-contains.true)

pub returns : goal.returns
returns g c =
    is_subset-of_all (coupons_of c.args.self.now) _ _
    (given _ _ _ _ _ (c.into_iter-coupon-iterator.ensures.into_iter_gives ∙ c.iter-coupon-items.ensures ∙ ap (λ (t : Table). coupons_in t.buckets) c.other.view_is) c.loop-coupon.yielded_by c.in-None.ensures.steps.0)
    c.loop-coupon.invariant
