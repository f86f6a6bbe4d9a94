-- SPDX-License-Identifier: Apache-2.0
use Rattle.std.proofs.Common.{◌≡◌, ◌<◌, length, ◌∙◌, ap, arith}
use Rattle.std.specs.FinSet.{insert}
use Rattle.hll_state.specs.CouponRun.{members}
use Rattle.hll_state.proofs.Runs.{members-push}
use Rattle.hll_state.proofs.run.CouponRun.push.Goals as goal
use Rattle.hll_state.proofs.run.CouponRun.push.Goals.{then-self-max, else-self-max}

pub returns-clause-added : goal.returns-clause-added
returns-clause-added c =
    let room : c.if-self-max.self.used < length c.if-self-max.coupons = elim c.if-self-max.branch [
      | then-self-max w ↦ omega (arith, ap (λ r. r.used) w.self-is, w.settle.ensures.fewer, c.requires.room, c.if-self-max.auto.coupons)
      | else-self-max w ↦ omega (arith, ap (λ r. r.used) w.self-is, c.requires.room, c.if-self-max.auto.coupons)
    ] in
    let same : members c.if-self-max.self c.if-self-max.coupons ≡ members c.args.self.now c.args.coupons.now = elim c.if-self-max.branch [
      | then-self-max w ↦ (λ i. members (w.self-is i) (w.coupons-is i)) ∙ w.settle.ensures.members
      | else-self-max w ↦ λ i. members (w.self-is i) (w.coupons-is i)
    ] in
    members-push c.if-self-max.self c.if-self-max.coupons c.set.new.coupons c.args.raw room c.set.ensures ∙ ap (λ S. insert S c.args.raw) same
