-- SPDX-License-Identifier: Apache-2.0
use Rattle.std.proofs.Common.{ℕ, length, sym, subst}
use Rattle.hll_state.specs.Counter.{content_of, IsHeldResolved}
use Rattle.hll_state.specs.CouponRun.{members}
use Rattle.hll_state.specs.Header.{IsHeldWithin}
use Rattle.hll_state.proofs.Rooms.{used_within}
use Rattle.hll_state.proofs.Settled.{resolved_count}
use Rattle.hll_c.specs.Estimates.{IsEstimateOfContent}
use Rattle.hll_c.proofs.States.{estimate_in_table}
use Rattle.hll_c.proofs.state.estimate_of_held.Goals as goal

pub returns-in-Coupons-clause-ok : goal.returns-in-Coupons-clause-ok
returns-in-Coupons-clause-ok c =
    let k : ℕ = c.args.header.lg_k in
    let b = c.args.body.now in
    let t = c.in-Coupons.coupons in
    let within = subst (λ held. IsHeldWithin k held (length b)) c.in-Coupons.is c.requires.within.held in
    let resolved = subst (λ held. IsHeldResolved k held b) c.in-Coupons.is c.requires.resolved in
    let count = resolved_count t.run b (used_within k t.run.used (length b) within.used within.there) resolved.ascends in
    subst (λ held. IsEstimateOfContent k (content_of k held b) c.estimate_of_coupons.result) (sym c.in-Coupons.is)
    (estimate_in_table k t (members t.run b) t.run.used c.estimate_of_coupons.result resolved.stays count c.estimate_of_coupons.ensures)
