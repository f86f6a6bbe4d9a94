-- SPDX-License-Identifier: Apache-2.0
use Rattle.std.proofs.Common.{◌<◌, ◌^◌, arith, ◌++◌, Some, sym, ap, subst, refl, ◌∙◌}
use Rattle.hll_merge.specs.Feeding.{Feed, TakesPiece, RefusesPiece, IsFedBy}
use Rattle.hll_text.specs.Cuts.{IsOpen}
use Rattle.hll_merge.proofs.FeedingLemmas.{takes-stream, refuses-stream, stays-stream}
use Rattle.hll_text.proofs.CutLemmas.{open_line-open}
use Rattle.hll_merge.proofs.feed.PlanFeed.feed.Goals as goal

pub returns-in-Some-clause-stream : goal.returns-in-Some-clause-stream
returns-in-Some-clause-stream g c = λ text h.
    stays-stream text c.args.piece.now c.args.self.now c.in-Some.fault h (sym (ap (λ (f : Feed). f.fault) c.self.view_is) ∙ c.in-Some.is)

pub invariant_of-self : goal.invariant_of-self
invariant_of-self g c =
    let small : c.in-Ok.count < 2 ^ 64 = omega (arith, c.in-Ok.ensures.1) in
    (subst (λ bytes. IsOpen bytes) (sym c.in-Ok.ensures.0) (open_line-open (c.self.inside.pending.items ++ c.args.piece.now)), small)

pub returns-in-Ok-clause-stream : goal.returns-in-Ok-clause-stream
returns-in-Ok-clause-stream g c = λ text h.
    let old : Feed = record { stack = c.self.inside.stack; pending = c.self.inside.pending.items; count = c.self.inside.count; fault = c.self.inside.fault } in
    let new : Feed = record { stack = c.take_piece.new.stack; pending = c.take_piece.new.pending.items; count = c.in-Ok.count; fault = c.self.inside.fault } in
    let took : TakesPiece old c.args.piece.now new = record { fault = c.in_default.is; pending = c.in-Ok.ensures.0; count = c.in-Ok.ensures.1; runs = c.in-Ok.ensures.2 } in
    takes-stream text c.args.piece.now old new (subst (λ s. IsFedBy text s) (sym c.self.view_is) h) c.in_default.is took

pub returns-in-Err-clause-stream : goal.returns-in-Err-clause-stream
returns-in-Err-clause-stream g c = λ text h.
    let old : Feed = record { stack = c.self.inside.stack; pending = c.self.inside.pending.items; count = c.self.inside.count; fault = c.self.inside.fault } in
    let new : Feed = record { stack = c.take_piece.new.stack; pending = c.clear.new.self.items; count = c.self.inside.count; fault = Some c.in-Err.fault } in
    let refused : RefusesPiece old c.args.piece.now new c.in-Err.fault = record { fault = refl; pending = c.clear.ensures.items; first = c.in-Err.ensures } in
    refuses-stream text c.args.piece.now old new c.in-Err.fault (subst (λ s. IsFedBy text s) (sym c.self.view_is) h) c.in_default.is refused
