-- SPDX-License-Identifier: Apache-2.0
use Rattle.std.proofs.Common.{◌^◌, ◌≤◌, ◌<◌, length, refl, sym, ap, subst, ◌∙◌}
use Rattle.std.specs.FinSet.{len, union}
use Rattle.std.proofs.lemmas.List.{append-nil}
use Rattle.hll_coupons.specs.Pair.{set_of}
use Rattle.hll_coupons.specs.Table.{Table, coupons_in, coupons_of, IsTable}
use Rattle.hll_coupons.proofs.AddedCoupons.{members_more, bucket_left}
use Rattle.hll_coupons.proofs.Unions.{union_none}
use Rattle.hll_coupons.proofs.Yielded.{given}
use Rattle.hll_sketch.proofs.additions.update_each.Goals as goal

pub loop-coupon-init : goal.loop-coupon-init
loop-coupon-init g c = record { size = refl; members = sym (union_none (coupons_of c.args.list.now)) }

pub update-requires-clause-room : goal.update-requires-clause-room
update-requires-clause-room g c = λ new.
    let all = given _ _ _ _ _ (c.into_iter-coupon-iterator.ensures.into_iter_gives ∙ c.iter-coupon-items.ensures) c.loop-coupon.yielded_by c.in-Some.ensures.steps in
    let inv = c.loop-coupon.invariant in
    subst (λ n. length (coupons_in c.loop-coupon.list.buckets) < 2 ^ n) (sym inv.size)
    (bucket_left (coupons_of c.args.list.now) c.loop-coupon.yielded c.next.new.self c.in-Some.coupon c.loop-coupon.list (2 ^ c.args.list.now.lg_size)
    (subst IsTable c.container.ensures.same c.table_is_legal-in-loop-coupon.ensures.table) inv.members
    (subst (λ order. len (union (coupons_of c.args.list.now) (set_of order)) ≤ 2 ^ c.args.list.now.lg_size) all c.requires) new)

pub loop-coupon-preserved : goal.loop-coupon-preserved
loop-coupon-preserved g c =
    let inv = c.loop-coupon.invariant in
    record { size = ap (λ (t : Table). t.lg_size) c.update.ensures.buckets ∙ inv.size; members = members_more (coupons_of c.args.list.now) c.loop-coupon.yielded c.in-Some.coupon _ _ inv.members c.update.ensures.members }

pub returns-clause-members : goal.returns-clause-members
returns-clause-members g c = c.loop-coupon.invariant.members ∙ ap (λ order. union (coupons_of c.args.list.now) (set_of order)) (sym (append-nil c.loop-coupon.yielded) ∙ sym (given _ _ _ _ _ (c.into_iter-coupon-iterator.ensures.into_iter_gives ∙ c.iter-coupon-items.ensures) c.loop-coupon.yielded_by c.in-None.ensures.steps.0))
