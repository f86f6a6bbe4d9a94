-- SPDX-License-Identifier: Apache-2.0
use Rattle.std.proofs.Common.{◌≡◌, ap, Err}
use Rattle.std.proofs.lemmas.Option.{IfSome_then}
use Rattle.hll_merge.proofs.FeedingLemmas.{finishes-stream, refuses_end-stream}
use Rattle.hll_merge.proofs.feed.PlanFeed.finish.Goals as goal

pub returns-in-Ok-clause-stopped : goal.returns-in-Ok-clause-stopped
returns-in-Ok-clause-stopped g c = IfSome_then c.args.self.fault c.in-Ok.ensures.stopped (λ e no. absurd (cc))

pub returns-in-Err-clause-stopped : goal.returns-in-Err-clause-stopped
returns-in-Err-clause-stopped g c = IfSome_then c.args.self.fault c.in-Err.ensures.stopped (λ e is. let same : c.in-Err.e ≡ e = cc in ap Err same)

pub returns-in-Ok-clause-end : goal.returns-in-Ok-clause-end
returns-in-Ok-clause-end g c = λ none. (c.in-Ok.ensures.end none).0

pub returns-in-Ok-clause-stream : goal.returns-in-Ok-clause-stream
returns-in-Ok-clause-stream g c = λ none text h. finishes-stream text c.args.self _ h none (c.in-Ok.ensures.end none).0

pub returns-in-Err-clause-stream : goal.returns-in-Err-clause-stream
returns-in-Err-clause-stream g c = λ none text h. refuses_end-stream text c.args.self c.in-Err.e h none (c.in-Err.ensures.end none)
