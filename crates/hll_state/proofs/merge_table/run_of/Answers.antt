-- SPDX-License-Identifier: Apache-2.0
use Rattle.std.proofs.Common.{ℕ, [], ◌∷◌, length, sym, ap, ◌∙◌, arith}
use Rattle.std.specs.FinSet.{insert}
use Rattle.std.proofs.lemmas.List.{append-nil, length-append}
use Rattle.hll_coupons.proofs.Yielded.{given}
use Rattle.hll_coupons.specs.Pair.{set_of}
use Rattle.hll_state.proofs.Sets.{set_of-push}
use Rattle.hll_state.proofs.merge_table.run_of.Goals as goal

pub push-requires-clause-room : goal.push-requires-clause-room
push-requires-clause-room g c =
    let all = given _ _ _ _ _ (c.into_iter-coupon-iterator.ensures.into_iter_gives ∙ c.iter-coupon-items.ensures) c.loop-coupon.yielded_by c.in-Some.ensures.steps in
    let total = ap length all ∙ length-append c.loop-coupon.yielded (c.in-Some.coupon ∷ c.next.new.self) in
    omega (arith, total, c.loop-coupon.invariant.used, c.loop-coupon.invariant.long, c.requires)

pub loop-coupon-preserved : goal.loop-coupon-preserved
loop-coupon-preserved g c =
    let coupon : ℕ = c.in-Some.coupon in
    let inv = c.loop-coupon.invariant in
    record {
      run = c.push.ensures.run;
      members = c.push.ensures.added ∙ ap (insert _) c.raw.ensures ∙ ap (λ S. insert S coupon) inv.members ∙ sym (set_of-push c.loop-coupon.yielded coupon);
      used = omega (arith, c.push.ensures.used, inv.used, length-append c.loop-coupon.yielded (coupon ∷ []));
      long = omega (arith, c.push.auto.coupons, inv.long);
    }

pub returns-clause-members : goal.returns-clause-members
returns-clause-members g c =
    c.loop-coupon.invariant.members ∙ ap set_of (sym (append-nil c.loop-coupon.yielded)
    ∙ sym (given _ _ _ _ _ (c.into_iter-coupon-iterator.ensures.into_iter_gives ∙ c.iter-coupon-items.ensures) c.loop-coupon.yielded_by c.in-None.ensures.steps.0))

pub returns-clause-used : goal.returns-clause-used
returns-clause-used g c =
    let all = given _ _ _ _ _ (c.into_iter-coupon-iterator.ensures.into_iter_gives ∙ c.iter-coupon-items.ensures) c.loop-coupon.yielded_by c.in-None.ensures.steps.0 in
    omega (arith, c.loop-coupon.invariant.used, ap length (all ∙ append-nil c.loop-coupon.yielded))
