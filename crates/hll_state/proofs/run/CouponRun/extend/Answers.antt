-- SPDX-License-Identifier: Apache-2.0
use Rattle.std.proofs.Common.{◌≡◌, ◌∙◌, ℕ, List, take, ap}
use Rattle.std.specs.FinSet.{union}
use Rattle.hll_coupons.specs.Pair.{set_of}
use Rattle.hll_state.specs.CouponRun.{members, raws}
use Rattle.hll_state.proofs.Sets.{set_of-append}
use Rattle.hll_state.proofs.run.CouponRun.extend.Goals as goal
use Rattle.hll_state.proofs.run.CouponRun.extend.Goals.{then-self-max, else-self-max}

pub returns-clause-added : goal.returns-clause-added
returns-clause-added c =
    let others : List ℕ = raws c.args.others.now in
    let same : members c.if-self-max.self c.if-self-max.coupons ≡ members c.args.self.now c.args.coupons.now = elim c.if-self-max.branch [
      | then-self-max w ↦ (λ i. members (w.self-is i) (w.coupons-is i)) ∙ w.settle.ensures.members
      | else-self-max w ↦ λ i. members (w.self-is i) (w.coupons-is i)
    ] in
    ap set_of c.copy_to.ensures ∙ set_of-append (take c.if-self-max.self.used (raws c.if-self-max.coupons)) others ∙ ap (λ S. union S (set_of others)) same
