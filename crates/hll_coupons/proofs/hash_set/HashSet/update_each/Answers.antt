-- SPDX-License-Identifier: Apache-2.0
use Rattle.std.proofs.Common.{◌≡◌, ◌^◌, ◌≤◌, ◌<◌, ◌∷◌, length, refl, sym, ap, subst, ◌∙◌}
use Rattle.std.specs.FinSet.{len, union}
use Rattle.hll_coupons.specs.Pair.{Pairs, set_of}
use Rattle.hll_coupons.specs.Table.{coupons_in, coupons_of}
use Rattle.hll_coupons.proofs.AddedCoupons.{absorbed, members_more, bucket_left}
use Rattle.hll_coupons.proofs.Unions.{union_none}
use Rattle.hll_coupons.proofs.Yielded.{given}
use Rattle.hll_coupons.proofs.hash_set.HashSet.update_each.Goals as goal

pub loop-coupon-init : goal.loop-coupon-init
loop-coupon-init g c = record { size = refl; members = sym (union_none (coupons_of c.args.self.now)); set = c.container-container.ensures.set }

pub loop-coupon-preserved-in-Some-insert_bounded : goal.loop-coupon-preserved-in-Some-insert_bounded
loop-coupon-preserved-in-Some-insert_bounded g c =
    let inv = c.loop-coupon.invariant in record {
      size = c.insert_bounded.ensures.size ∙ inv.size;
      members = members_more (coupons_of c.args.self.now) c.loop-coupon.yielded c.in-Some.coupon _ _ inv.members c.in-Some-insert_bounded.ensures.members;
      set = c.insert_bounded.ensures.set;
    }

pub update_by_order-requires : goal.update_by_order-requires
update_by_order-requires g c =
    let all = given _ _ _ _ _ (c.into_iter-coupon-iterator.ensures.into_iter_gives ∙ c.iter-coupon-items.ensures) c.loop-coupon.yielded_by c.in-Some.ensures.steps in
    let S : Pairs = coupons_of c.args.self.now in
    let inv = c.loop-coupon.invariant in
    let is : coupons_of c.insert_bounded.new.self ≡ union S (set_of c.loop-coupon.yielded) = ap coupons_of c.in-None-insert_bounded.ensures.unchanged ∙ inv.members in
    let same : union (coupons_of c.insert_bounded.new.self) (coupons_of c.args.others.now) ≡ union S (coupons_of c.args.others.now) =
    ap (λ P. union P (coupons_of c.args.others.now)) is ∙ absorbed S c.loop-coupon.yielded (c.in-Some.coupon ∷ c.next.new.self) (coupons_in c.args.others.now.buckets) all in
    subst (λ n. len (union (coupons_of c.insert_bounded.new.self) (coupons_of c.args.others.now)) ≤ 2 ^ n) (sym (c.insert_bounded.ensures.size ∙ inv.size))
    (subst (λ P. len P ≤ 2 ^ c.args.self.now.lg_size) (sym same) c.requires)

pub returns-in-None-insert_bounded-clause-members : goal.returns-in-None-insert_bounded-clause-members
returns-in-None-insert_bounded-clause-members g c =
    let all = given _ _ _ _ _ (c.into_iter-coupon-iterator.ensures.into_iter_gives ∙ c.iter-coupon-items.ensures) c.loop-coupon.yielded_by c.in-Some.ensures.steps in
    let S : Pairs = coupons_of c.args.self.now in
    let is : coupons_of c.insert_bounded.new.self ≡ union S (set_of c.loop-coupon.yielded) = ap coupons_of c.in-None-insert_bounded.ensures.unchanged ∙ c.loop-coupon.invariant.members in
    c.update_by_order.ensures.members c.if-update_by_order.true
    ∙ ap (λ P. union P (coupons_of c.args.others.now)) is ∙ absorbed S c.loop-coupon.yielded (c.in-Some.coupon ∷ c.next.new.self) (coupons_in c.args.others.now.buckets) all

pub update-requires-clause-room : goal.update-requires-clause-room
update-requires-clause-room g c = λ new.
    let all = given _ _ _ _ _ (c.into_iter-coupon-iterator.ensures.into_iter_gives ∙ c.iter-coupon-items.ensures) c.loop-coupon.yielded_by c.in-Some.ensures.steps in
    let inv = c.loop-coupon.invariant in
    let kept = c.update_by_order.ensures.unchanged c.if-update_by_order.false ∙ c.in-None-insert_bounded.ensures.unchanged in
    subst (λ n. length (coupons_in c.update_by_order.new.self.buckets) < 2 ^ n) (sym (c.update_by_order.ensures.size ∙ c.insert_bounded.ensures.size ∙ inv.size))
    (bucket_left (coupons_of c.args.self.now) c.loop-coupon.yielded c.next.new.self c.in-Some.coupon c.update_by_order.new.self (2 ^ c.args.self.now.lg_size) c.update_by_order.ensures.set.table (ap coupons_of kept ∙ inv.members)
    (subst (λ order. len (union (coupons_of c.args.self.now) (set_of order)) ≤ 2 ^ c.args.self.now.lg_size) all c.requires) new)

pub loop-coupon-preserved : goal.loop-coupon-preserved
loop-coupon-preserved g c =
    let inv = c.loop-coupon.invariant in
    let kept = c.update_by_order.ensures.unchanged c.if-update_by_order.false ∙ c.in-None-insert_bounded.ensures.unchanged in record {
      size = c.update.ensures.size ∙ c.update_by_order.ensures.size ∙ c.insert_bounded.ensures.size ∙ inv.size;
      members = members_more (coupons_of c.args.self.now) c.loop-coupon.yielded c.in-Some.coupon _ _ (ap coupons_of kept ∙ inv.members) c.update.ensures.members;
      set = c.update.ensures.set;
    }
