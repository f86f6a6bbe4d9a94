-- SPDX-License-Identifier: Apache-2.0
use Rattle.std.proofs.Common.{◌≡◌, ◌^◌, ◌≤◌, ◌<◌, All, length, refl, sym, ap, subst, ◌∙◌}
use Rattle.std.specs.FinSet.{contains, len, union}
use Rattle.std.proofs.lemmas.List.{append-nil}
use Rattle.hll_coupons.specs.Pair.{Pairs, IsPair, set_of}
use Rattle.hll_coupons.specs.Table.{coupons_in, coupons_of}
use Rattle.hll_coupons.proofs.AddedCoupons.{lacking, members_more, members_same, bucket_left}
use Rattle.hll_coupons.proofs.Collecting.{All-between}
use Rattle.hll_coupons.proofs.Unions.{union_none}
use Rattle.hll_coupons.proofs.Yielded.{given}
use Rattle.hll_coupons.proofs.additions.put_lacking.Goals as goal

pub loop-coupon-init : goal.loop-coupon-init
loop-coupon-init g c =
    record { size = refl; members = sym (union_none (coupons_of c.args.table.now)); set = c.requires.set; cycles = c.new-searches.ensures c.args.table.now.lg_size c.args.table.now.buckets }

pub put_new-requires-clause-valued : goal.put_new-requires-clause-valued
put_new-requires-clause-valued g c =
    let all = given _ _ _ _ _ (c.into_iter-coupon-iterator.ensures.into_iter_gives ∙ c.iter-coupon-items.ensures) c.loop-coupon.yielded_by c.in-Some.ensures.steps in
    (All-between IsPair c.loop-coupon.yielded c.next.new.self c.in-Some.coupon (subst (All IsPair) all c.table_is_legal.ensures.table.valued)).valued

pub put_new-requires-clause-new : goal.put_new-requires-clause-new
put_new-requires-clause-new g c =
    let all = given _ _ _ _ _ (c.into_iter-coupon-iterator.ensures.into_iter_gives ∙ c.iter-coupon-items.ensures) c.loop-coupon.yielded_by c.in-Some.ensures.steps in
    let S : Pairs = coupons_of c.args.table.now in
    ap (λ P. contains P c.in-Some.coupon) c.loop-coupon.invariant.members
    ∙ lacking S c.loop-coupon.yielded c.next.new.self c.in-Some.coupon (subst (λ order. len (set_of order) ≡ length order) all c.table_is_legal.ensures.table.distinct)
    (ap (λ P. contains P c.in-Some.coupon) (sym c.requires.own.members) ∙ sym c.is_among.ensures ∙ c.if-not-is_among.true)

pub put_new-requires-clause-room : goal.put_new-requires-clause-room
put_new-requires-clause-room g c =
    let all = given _ _ _ _ _ (c.into_iter-coupon-iterator.ensures.into_iter_gives ∙ c.iter-coupon-items.ensures) c.loop-coupon.yielded_by c.in-Some.ensures.steps in
    let S : Pairs = coupons_of c.args.table.now in
    let inv = c.loop-coupon.invariant in
    let new = ap (λ P. contains P c.in-Some.coupon) inv.members
    ∙ lacking S c.loop-coupon.yielded c.next.new.self c.in-Some.coupon (subst (λ order. len (set_of order) ≡ length order) all c.table_is_legal.ensures.table.distinct)
    (ap (λ P. contains P c.in-Some.coupon) (sym c.requires.own.members) ∙ sym c.is_among.ensures ∙ c.if-not-is_among.true) in
    subst (λ n. length (coupons_in c.loop-coupon.table.buckets) < 2 ^ n) (sym inv.size)
    (bucket_left S c.loop-coupon.yielded c.next.new.self c.in-Some.coupon c.loop-coupon.table (2 ^ c.args.table.now.lg_size) inv.set.table inv.members
    (subst (λ order. len (union S (set_of order)) ≤ 2 ^ c.args.table.now.lg_size) all c.requires.room) new)

pub loop-coupon-preserved-then-not-is_among : goal.loop-coupon-preserved-then-not-is_among
loop-coupon-preserved-then-not-is_among g c =
    let inv = c.loop-coupon.invariant in record {
      size = c.put_new.ensures.size ∙ inv.size;
      members = members_more (coupons_of c.args.table.now) c.loop-coupon.yielded c.in-Some.coupon _ _ inv.members c.put_new.ensures.members;
      set = c.put_new.ensures.set;
      cycles = c.put_new.ensures.cycles;
    }

pub loop-coupon-preserved : goal.loop-coupon-preserved
loop-coupon-preserved g c =
    let inv = c.loop-coupon.invariant in record {
      size = inv.size;
      members = members_same (coupons_of c.args.table.now) c.loop-coupon.yielded c.in-Some.coupon _ inv.members
          (ap (λ P. contains P c.in-Some.coupon) (sym c.requires.own.members) ∙ sym c.is_among.ensures ∙ c.if-not-is_among.false);
      set = inv.set;
      cycles = inv.cycles;
    }

pub returns-clause-members : goal.returns-clause-members
returns-clause-members g c = c.loop-coupon.invariant.members ∙ ap (λ order. union (coupons_of c.args.table.now) (set_of order)) (sym (append-nil c.loop-coupon.yielded) ∙ sym (given _ _ _ _ _ (c.into_iter-coupon-iterator.ensures.into_iter_gives ∙ c.iter-coupon-items.ensures) c.loop-coupon.yielded_by c.in-None.ensures.steps.0))
