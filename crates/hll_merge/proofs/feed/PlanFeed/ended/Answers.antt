-- SPDX-License-Identifier: Apache-2.0
use Rattle.std.proofs.Common.{◌≡◌, ◌+◌, [], length, false, nat_eq, sym, ap, subst, ◌∙◌, arith}
use Rattle.hll_text.specs.Text.{line_of_rest, line_number, reading}
use Rattle.hll_merge.specs.Feeding.{Feed}
use Rattle.hll_merge.specs.Stack.{StackRuns, StackStops, StackGives, StackFaults}
use Rattle.hll_merge.proofs.Evaluating.{no_items}
use Rattle.hll_merge.proofs.FeedingLemmas.{one-left, ends-empty, ends-line, ends-fault}
use Rattle.hll_merge.proofs.feed.PlanFeed.ended.Goals as goal

pub returns-then-is_empty-clause-end : goal.returns-then-is_empty-clause-end
returns-then-is_empty-clause-end g c = λ none.
    let old : Feed = record { stack = c.self.inside.stack; pending = c.self.inside.pending.items; count = c.self.inside.count; fault = c.self.inside.fault } in
    let nothing : old.pending ≡ [] = sym c.as_slice-last.ensures.value ∙ no_items _ (sym c.is_empty.ensures ∙ c.if-is_empty.true) in
    let counted : old.count ≡ line_number (old.count + length (line_of_rest old.pending)) = subst (λ bytes. old.count ≡ line_number (old.count + length (line_of_rest bytes))) (sym nothing) (omega (arith, c.self.invariant.1)) in
    subst (λ (s : Feed). StackRuns s.stack (line_of_rest s.pending) old.stack × (old.count ≡ line_number (s.count + length (line_of_rest s.pending)))) c.self.view_is (ends-empty old nothing, counted)

pub returns-in-Ok-clause-end : goal.returns-in-Ok-clause-end
returns-in-Ok-clause-end g c = λ none.
    let old : Feed = record { stack = c.self.inside.stack; pending = c.self.inside.pending.items; count = c.self.inside.count; fault = c.self.inside.fault } in
    let some : nat_eq (length old.pending) 0 ≡ false = ap (λ bytes. nat_eq (length bytes) 0) (sym c.as_slice-last.ensures.value) ∙ sym c.is_empty.ensures ∙ c.if-is_empty.false in
    let gives : StackGives reading old.stack old.pending c.carry_line.new.self = subst (λ line. StackGives reading old.stack line c.carry_line.new.self) c.as_slice-last.ensures.value c.in-Ok.ensures.ok in
    let counted : c.saturating_add-number.result ≡ line_number (old.count + length (line_of_rest old.pending)) = omega (arith, c.saturating_add-number.ensures, ap length (one-left old.pending some)) in
    subst (λ (s : Feed). StackRuns s.stack (line_of_rest s.pending) c.carry_line.new.self × (c.saturating_add-number.result ≡ line_number (s.count + length (line_of_rest s.pending)))) c.self.view_is
    (ends-line old c.carry_line.new.self some gives, counted)

pub returns-in-Err-clause-end : goal.returns-in-Err-clause-end
returns-in-Err-clause-end g c = λ none.
    let old : Feed = record { stack = c.self.inside.stack; pending = c.self.inside.pending.items; count = c.self.inside.count; fault = c.self.inside.fault } in
    let some : nat_eq (length old.pending) 0 ≡ false = ap (λ bytes. nat_eq (length bytes) 0) (sym c.as_slice-last.ensures.value) ∙ sym c.is_empty.ensures ∙ c.if-is_empty.false in
    let faults : StackFaults reading old.stack old.pending c.in-Err.fault = subst (λ line. StackFaults reading old.stack line c.in-Err.fault) c.as_slice-last.ensures.value c.in-Err.ensures.err in
    subst (λ (s : Feed). StackStops s.stack s.count (line_of_rest s.pending) c.at.result) c.self.view_is
    (subst (λ e. StackStops old.stack old.count (line_of_rest old.pending) e) (sym c.at.ensures)
    (ends-fault old (record { line = c.saturating_add-number.result; fault = c.in-Err.fault }) some faults c.saturating_add-number.ensures))

pub returns-in-Err-clause-needed : goal.returns-in-Err-clause-needed
returns-in-Err-clause-needed g c = λ none memory skipped.
    c.in-Err.ensures.skipped (ap reading (c.as_slice-last.ensures.value ∙ ap (λ (s : Feed). s.pending) c.self.view_is) ∙ skipped)
