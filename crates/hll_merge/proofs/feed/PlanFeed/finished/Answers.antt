-- SPDX-License-Identifier: Apache-2.0
use Rattle.std.proofs.Common.{◌≡◌, inl, inr, refl, sym, ap, subst, Err}
use Rattle.std.proofs.lemmas.Option.{IfSome_then}
use Rattle.hll_merge.specs.Feeding.{RefusesEnd}
use Rattle.hll_merge.specs.Stack.{StackRuns}
use Rattle.hll_text.specs.Text.{line_of_rest}
use Rattle.hll_merge.proofs.FeedingLemmas.{ends-not_one}
use Rattle.hll_merge.proofs.feed.PlanFeed.finished.Goals as goal

pub returns-in-Some-clause-stopped : goal.returns-in-Some-clause-stopped
returns-in-Some-clause-stopped g c = IfSome_then c.args.self.fault c.in-Ok.ensures.stopped (λ e no. absurd (cc))

pub returns-in-None-clause-stopped : goal.returns-in-None-clause-stopped
returns-in-None-clause-stopped g c = IfSome_then c.args.self.fault c.in-Ok.ensures.stopped (λ e no. absurd (cc))

pub returns-in-Err-clause-stopped : goal.returns-in-Err-clause-stopped
returns-in-Err-clause-stopped g c = IfSome_then c.args.self.fault c.in-Err.ensures.stopped (λ e is. let same : c.in-Err.e ≡ e = cc in ap Err same)

pub returns-in-Some-clause-end : goal.returns-in-Some-clause-end
returns-in-Some-clause-end g c = λ none.
    let r = c.in-Ok.ensures.end none in
    (subst (StackRuns c.args.self.stack (line_of_rest c.args.self.pending)) c.in-Some.ensures.one r.0, r.1)

pub returns-in-None-clause-end : goal.returns-in-None-clause-end
returns-in-None-clause-end g c = λ none.
    let r = c.in-Ok.ensures.end none in
    subst (RefusesEnd c.args.self) (sym c.at.ensures) (ends-not_one c.args.self c.in-Ok.stack _ r.0 c.in-None.ensures.other refl r.1)

pub returns-in-Err-clause-end : goal.returns-in-Err-clause-end
returns-in-Err-clause-end g c = λ none ts h. elim (c.in-Err.ensures.end none ts h) [ inl m ↦ inl m | inr f ↦ inr (inl f) ]
