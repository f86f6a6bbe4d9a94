-- SPDX-License-Identifier: Apache-2.0
use Rattle.std.proofs.Common.{ℕ, List, ◌≡◌, ◌*◌, ap, subst, length, ◌∙◌}
use Rattle.hll_coupons.specs.Cycle.{IsNextRound}
use Rattle.hll_coupons.proofs.Cycles.{ends_for}
use Rattle.hll_coupons.proofs.cycle.Cycle.first_empty.Goals as goal

pub returns-clause-found : goal.returns-clause-found
returns-clause-found g c =
    let lg : ℕ = c.args.self.now.lg_size in
    let blocks : List ℕ = c.args.self.now.empty.items in
    let is : c.deref.result.now ≡ blocks = c.deref.ensures.value in
    let round : IsNextRound lg blocks c.wrapped-start.result c.in_ok-steps.steps =
    subst (λ w. IsNextRound lg w c.wrapped-start.result c.in_ok-steps.steps) is (c.in_ok-steps.ensures.found lg (ap (λ w. 64 * length w) is ∙ c.requires.size)) in
    ends_for lg c.args.self.now.stride c.args.self.now.inverse c.args.key c.wrapped-start.result c.in_ok-steps.steps c.wrapped.result blocks c.requires.inverse c.wrapped-start.ensures c.wrapped.ensures round
