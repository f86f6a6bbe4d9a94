-- SPDX-License-Identifier: Apache-2.0
use Rattle.std.proofs.Common.{All, [], sym, ap, subst, ◌∙◌}
use Rattle.std.specs.FinSet.{insert}
use Rattle.std.proofs.lemmas.List.{append-nil}
use Rattle.hll_coupons.specs.Pair.{IsPair, set_of}
use Rattle.hll_coupons.specs.Table.{Table, coupons_in, IsTable}
use Rattle.hll_coupons.proofs.Members.{set_of-between}
use Rattle.hll_coupons.proofs.Yielded.{given}
use Rattle.hll_coupons.proofs.Collecting.{All-between, room_of_eight}
use Rattle.hll_sketch.proofs.folding.list_of.Goals as goal

pub update-requires-clause-valued : goal.update-requires-clause-valued
update-requires-clause-valued g c =
    let all = given _ _ _ _ _ (c.into_iter-coupon-iterator.ensures.into_iter_gives ∙ c.iter-coupon-items.ensures) c.loop-coupon.yielded_by c.in-Some.ensures.steps in
    let pair : IsPair c.in-Some.coupon = All-between IsPair c.loop-coupon.yielded c.next.new.self c.in-Some.coupon (subst (All IsPair) all c.table_is_legal.ensures.table.valued) in
    pair.valued

pub update-requires-clause-room : goal.update-requires-clause-room
update-requires-clause-room g c =
    let all = given _ _ _ _ _ (c.into_iter-coupon-iterator.ensures.into_iter_gives ∙ c.iter-coupon-items.ensures) c.loop-coupon.yielded_by c.in-Some.ensures.steps in
    let table : IsTable c.loop-coupon.list = subst IsTable c.container.ensures.same c.table_is_legal-in-loop-coupon.ensures.table in
    room_of_eight c.loop-coupon.list (coupons_in c.args.table.now.buckets) c.loop-coupon.yielded c.next.new.self c.in-Some.coupon table c.loop-coupon.invariant.0 c.loop-coupon.invariant.1 all c.requires

pub loop-coupon-preserved : goal.loop-coupon-preserved
loop-coupon-preserved g c = (
  ap (λ (t : Table). t.lg_size) c.update.ensures.buckets ∙ c.loop-coupon.invariant.0,
  c.update.ensures.members ∙ ap (λ S. insert S c.in-Some.coupon) (c.loop-coupon.invariant.1 ∙ ap set_of (sym (append-nil c.loop-coupon.yielded))) ∙ sym (set_of-between c.loop-coupon.yielded [] c.in-Some.coupon),
)

pub returns-clause-members : goal.returns-clause-members
returns-clause-members g c =
    let all = given _ _ _ _ _ (c.into_iter-coupon-iterator.ensures.into_iter_gives ∙ c.iter-coupon-items.ensures) c.loop-coupon.yielded_by c.in-None.ensures.steps.0 in
    c.loop-coupon.invariant.1 ∙ ap set_of (sym (append-nil c.loop-coupon.yielded) ∙ sym all)
