-- SPDX-License-Identifier: Apache-2.0
use Rattle.std.proofs.Common.{◌≡◌, ◌+◌, ◌≤◌, ◌^◌, ◌∷◌, not, length, sym, ap, subst, ◌∙◌, arith}
use Rattle.std.specs.FinSet.{len, union}
use Rattle.std.proofs.Math.Pow.{pow_mono}
use Rattle.std.proofs.lemmas.List.{append-nil}
use Rattle.hll_coupons.specs.Pair.{set_of}
use Rattle.hll_coupons.specs.Table.{coupons_in}
use Rattle.hll_coupons.proofs.AddedCoupons.{at_most_one, count_more}
use Rattle.hll_coupons.proofs.Ascending.{distinct-ascending}
use Rattle.hll_coupons.proofs.Collecting.{len-union_none, len-union_most, shorter}
use Rattle.hll_coupons.proofs.Yielded.{given}
use Rattle.hll_coupons.proofs.additions.count_of_both.Goals as goal

pub loop-coupon-init : goal.loop-coupon-init
loop-coupon-init g c = sym (distinct-ascending c.args.own.now c.requires.ascends) ∙ sym (len-union_none (set_of c.args.own.now))

pub overflow_add-count : goal.overflow_add-count
overflow_add-count g c =
    let all = given _ _ _ _ _ (c.into_iter-coupon-iterator.ensures.into_iter_gives ∙ c.iter-coupon-items.ensures) c.loop-coupon.yielded_by c.in-Some.ensures.steps in
    let part : length c.loop-coupon.yielded ≤ length (coupons_in c.args.others.now.buckets) = rw all (shorter c.loop-coupon.yielded (c.in-Some.coupon ∷ c.next.new.self)) in
    let few : 2 ^ c.args.others.now.lg_size ≤ 2 ^ 26 = pow_mono c.table_is_legal.ensures.table.small in
    omega (arith, c.from-count.ensures, at_most_one (not c.is_among.result), c.loop-coupon.invariant, len-union_most (set_of c.args.own.now) c.loop-coupon.yielded, distinct-ascending c.args.own.now c.requires.ascends, c.requires.few, part, few, c.table_is_legal.ensures.within)

pub loop-coupon-preserved : goal.loop-coupon-preserved
loop-coupon-preserved g c =
    let all = given _ _ _ _ _ (c.into_iter-coupon-iterator.ensures.into_iter_gives ∙ c.iter-coupon-items.ensures) c.loop-coupon.yielded_by c.in-Some.ensures.steps in
    count_more (set_of c.args.own.now) c.loop-coupon.yielded c.next.new.self c.in-Some.coupon c.loop-coupon.count _ c.is_among.result
    (subst (λ order. len (set_of order) ≡ length order) all c.table_is_legal.ensures.table.distinct) c.loop-coupon.invariant c.is_among.ensures (ap (λ n. c.loop-coupon.count + n) c.from-count.ensures)

pub returns : goal.returns
returns g c = c.loop-coupon.invariant ∙ ap (λ order. len (union (set_of c.args.own.now) (set_of order))) (sym (append-nil c.loop-coupon.yielded) ∙ sym (given _ _ _ _ _ (c.into_iter-coupon-iterator.ensures.into_iter_gives ∙ c.iter-coupon-items.ensures) c.loop-coupon.yielded_by c.in-None.ensures.steps.0))
