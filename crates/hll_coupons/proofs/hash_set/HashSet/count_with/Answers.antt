-- SPDX-License-Identifier: Apache-2.0
use Rattle.std.proofs.Common.{◌≡◌, ◌+◌, ◌≤◌, ◌^◌, ◌∷◌, not, length, sym, ap, subst, ◌∙◌, arith}
use Rattle.std.specs.FinSet.{contains, len, union}
use Rattle.std.proofs.Math.Pow.{pow_mono}
use Rattle.std.proofs.lemmas.List.{append-nil}
use Rattle.hll_coupons.specs.Pair.{set_of}
use Rattle.hll_coupons.specs.Table.{Table, coupons_in, coupons_of}
use Rattle.hll_coupons.proofs.AddedCoupons.{at_most_one, count_more}
use Rattle.hll_coupons.proofs.Collecting.{len-union_none, len-union_most, shorter}
use Rattle.hll_coupons.proofs.Yielded.{given}
use Rattle.hll_coupons.proofs.hash_set.HashSet.count_with.Goals as goal
use Rattle.hll_coupons.proofs.hash_set.HashSet.count_with.Goals.{in-Some-has_bounded, in-None-has_bounded, in-None-2+in-Err}

pub loop-coupon-init : goal.loop-coupon-init
loop-coupon-init g c =
    c.len-count.ensures.count ∙ sym c.len-count.ensures.table.distinct ∙ ap (λ (t : Table). len (coupons_of t)) c.self.view_is ∙ sym (len-union_none (coupons_of c.args.self.now))

pub overflow_add-count : goal.overflow_add-count
overflow_add-count g c =
    let all = given _ _ _ _ _ (c.into_iter-coupon-iterator.ensures.into_iter_gives ∙ c.iter-coupon-items.ensures) c.loop-coupon.yielded_by c.in-Some.ensures.steps in
    let part : length c.loop-coupon.yielded ≤ length (coupons_in c.args.others.now.buckets) = rw all (shorter c.loop-coupon.yielded (c.in-Some.coupon ∷ c.next.new.self)) in
    let few : 2 ^ c.args.others.now.lg_size ≤ 2 ^ 26 = pow_mono c.table_is_legal.ensures.table.small in
    let own : 2 ^ c.self.inside.container.lg_size ≤ 2 ^ 26 = pow_mono c.self.invariant.table.small in
    omega (arith, c.from-count.ensures, at_most_one (not c.match-has_bounded.has), c.loop-coupon.invariant, len-union_most (coupons_of c.args.self.now) c.loop-coupon.yielded, ap (λ (t : Table). len (coupons_of t)) c.self.view_is, c.len-count.ensures.table.distinct, c.len-count.ensures.count, c.len-count.ensures.within, own, part, few, c.table_is_legal.ensures.within)

pub loop-coupon-preserved : goal.loop-coupon-preserved
loop-coupon-preserved g c =
    let all = given _ _ _ _ _ (c.into_iter-coupon-iterator.ensures.into_iter_gives ∙ c.iter-coupon-items.ensures) c.loop-coupon.yielded_by c.in-Some.ensures.steps in
    let is : c.match-has_bounded.has ≡ contains (coupons_of c.args.self.now) c.in-Some.coupon = elim c.match-has_bounded.branch [
      | in-Some-has_bounded w ↦ w.has-is ∙ w.in-Some-has_bounded.ensures
      | in-None-has_bounded w ↦ w.has-is ∙ w.contains-has.ensures
      | in-None-2+in-Err w ↦ w.has-is ∙ w.contains.ensures
    ] in
    count_more (coupons_of c.args.self.now) c.loop-coupon.yielded c.next.new.self c.in-Some.coupon c.loop-coupon.count _ c.match-has_bounded.has
    (subst (λ order. len (set_of order) ≡ length order) all c.table_is_legal.ensures.table.distinct) c.loop-coupon.invariant is (ap (λ n. c.loop-coupon.count + n) c.from-count.ensures)

pub returns : goal.returns
returns g c = c.loop-coupon.invariant ∙ ap (λ order. len (union (coupons_of c.args.self.now) (set_of order))) (sym (append-nil c.loop-coupon.yielded) ∙ sym (given _ _ _ _ _ (c.into_iter-coupon-iterator.ensures.into_iter_gives ∙ c.iter-coupon-items.ensures) c.loop-coupon.yielded_by c.in-None.ensures.steps.0))

pub count_of_both-requires-clause-few : goal.count_of_both-requires-clause-few
count_of_both-requires-clause-few g c =
    let own : 2 ^ c.self.inside.container.lg_size ≤ 2 ^ 26 = pow_mono c.self.invariant.table.small in
    omega (arith, own, c.in-Ok.ensures.count, ap length c.deref.ensures.value, ap (λ (t : Table). length (coupons_in t.buckets)) c.self.view_is, c.len-count.ensures.within)
