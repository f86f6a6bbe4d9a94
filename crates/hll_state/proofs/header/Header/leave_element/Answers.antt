-- SPDX-License-Identifier: Apache-2.0
use Rattle.std.proofs.Common.{ℕ, true, sym, ap, ◌∙◌}
use Rattle.hll_coupons.specs.Pair.{Pairs}
use Rattle.hll_sketch.specs.Adding.{content_with}
use Rattle.hll_state.specs.Counter.{content_of, sketch_in}
use Rattle.hll_state.specs.CouponRun.{members}
use Rattle.hll_state.specs.declared.header.CouponTable.{CouponTable}
use Rattle.hll_state.specs.declared.header.Header.{Header}
use Rattle.hll_state.proofs.Tables.{content_with-coupons}
use Rattle.hll_state.proofs.header.Header.leave_element.Goals as goal

pub returns-then-coupons-most_used-clause-same : goal.returns-then-coupons-most_used-clause-same
returns-then-coupons-most_used-clause-same c = λ T.
    let h : Header = c.args.self.now in
    let k : ℕ = h.lg_k in
    let t : CouponTable = c.in-Coupons.coupons in
    let S : Pairs = members t.run c.args.body.now in
    let content = ap (λ d. content_with k d T) c.resolved-self.ensures.same ∙ content_with-coupons k (record t { added = true }) S T
    ∙ sym (content_with-coupons k t S T) ∙ sym (ap (λ held. content_with k (content_of k held c.args.body.now) T) c.in-Coupons.is) in
    ap (λ d. record (sketch_in h c.args.body.now) { content = d }) content
