-- SPDX-License-Identifier: Apache-2.0
use Rattle.std.proofs.Common.{◌≡◌, ◌+◌, ◌++◌, [], ◌∷◌, List, ℕ, length, inl, inr, sym, ap, subst, ◌∙◌, append_assoc, arith}
use Rattle.std.proofs.lemmas.List.{append-nil, length-append}
use Rattle.hll_text.specs.declared.fault.MergeError.{MergeError}
use Rattle.hll_text.specs.Text.{ended_lines, line_number, reading}
use Rattle.hll_merge.specs.Accepting.{Runs, FaultsFrom}
use Rattle.hll_merge.proofs.FeedingLemmas.{Runs-append, FaultsFrom-after}
use Rattle.hll_merge.proofs.StackLemmas.{Runs-more}
use Rattle.hll_merge.proofs.feed.take_piece.Goals as goal

pub lines-preserved : goal.lines-preserved
lines-preserved g c =
    let inv = c.lines.invariant in
    let front : List (List ℕ) = inv.0 in (
      front ++ c.in-Some.line.now ∷ [],
      inv.1 ∙ ap (λ ls. front ++ ls) c.in-Some.ensures.lines.0 ∙ sym (append_assoc front (c.in-Some.line.now ∷ []) (ended_lines c.in-Some.more.now)),
      inv.2 ∙ c.in-Some.ensures.rest,
      let n : c.saturating_add-number.result ≡ line_number (c.in_ok-left.closed + length (front ++ c.in-Some.line.now ∷ [])) = omega (arith, inv.3, c.saturating_add-number.ensures, length-append front (c.in-Some.line.now ∷ [])) in n,
      inv.4,
      λ ts h. let run = inv.5 ts h in let next = c.in_default.ensures.ok run.0 run.2 in (next.0, Runs-more reading ts run.0 next.0 front c.in-Some.line.now run.1 next.1, next.2),
    )

pub returns-in-Ok : goal.returns-in-Ok
returns-in-Ok g c =
    let closed = c.in_ok-left.ensures in
    let ended : List (List ℕ) = closed.0 in
    let left : List (List ℕ) = ended_lines c.in_ok-left.left.now in
    let inv = c.lines.invariant in
    let front : List (List ℕ) = inv.0 in
    let all : ended_lines (c.args.pending.now.items ++ c.args.piece.now) ≡ ended ++ front =
    closed.1.lines ∙ ap (λ ls. ended ++ ls) (inv.1 ∙ ap (λ ls. front ++ ls) c.in-None.ensures.lines ∙ append-nil front) in (
      c.in-Ok.ensures.items ∙ (λ i. inv.4 i ++ sym (inv.2 ∙ c.in-None.ensures.rest) i) ∙ sym closed.1.open_bytes,
      let n : c.lines.number ≡ line_number (c.args.count + length (ended_lines (c.args.pending.now.items ++ c.args.piece.now))) =
          omega (arith, inv.3, closed.2, ap length all, length-append ended front) in n,
      λ ts h.
          let a = closed.3 ts h in
          let run = inv.5 a.0 a.2 in (
            run.0,
            subst (λ ls. Runs reading ts ls run.0) (sym all) (Runs-append ts a.0 run.0 ended front a.1 run.1),
            run.2,
          ),
    )

pub returns-in-Err-carry_line : goal.returns-in-Err-carry_line
returns-in-Err-carry_line g c = λ ts h.
    let closed = c.in_ok-left.ensures in
    let ended : List (List ℕ) = closed.0 in
    let left : List (List ℕ) = ended_lines c.in_ok-left.left.now in
    let a = closed.3 ts h in
    let inv = c.lines.invariant in
    let front : List (List ℕ) = inv.0 in
    let run = inv.5 a.0 a.2 in
    elim (c.in-Err-carry_line.ensures.err run.0 run.2) [
      | inl m ↦ inl (ap (λ (e : MergeError). e.fault) c.at-in-Err-carry_line.ensures ∙ m)
      | inr f ↦ inr (subst (λ ls. FaultsFrom reading ts c.args.count ls c.at-in-Err-carry_line.result) (sym closed.1.lines)
          (FaultsFrom-after ts a.0 c.args.count c.in_ok-left.closed ended left c.at-in-Err-carry_line.result a.1 closed.2
          (subst (FaultsFrom reading a.0 c.in_ok-left.closed left) (sym c.at-in-Err-carry_line.ensures) (record {
            front = front;
            line = c.in-Some.line.now;
            rest = ended_lines c.in-Some.more.now;
            is = inv.1 ∙ ap (λ ls. front ++ ls) c.in-Some.ensures.lines.0;
            stack = run.0;
            runs = run.1;
            fault = f;
            at = let n : c.saturating_add-number.result ≡ line_number (c.in_ok-left.closed + length front + 1) = omega (arith, inv.3, c.saturating_add-number.ensures) in n;
          }))))
    ]
