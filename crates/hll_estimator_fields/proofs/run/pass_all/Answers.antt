-- SPDX-License-Identifier: Apache-2.0
use Rattle.std.proofs.Common.{◌≡◌, ◌++◌, ℕ, List, take, sym, ap, subst, ◌∙◌}
use Rattle.hll_text.specs.Cuts.{IsOpen}
use Rattle.hll_text.specs.Text.{ended_lines, open_line}
use Rattle.hll_text.proofs.CutLemmas.{ended_lines-append, open_line-append, open_line-open}
use Rattle.hll_text.proofs.StreamLemmas.{Consumes-more}
use Rattle.hll_estimator_fields.proofs.PassingLemmas.{Passes-append, Passes-of, Stops-after, Stops-of}
use Rattle.hll_estimator_fields.proofs.run.pass_all.Goals as goal

pub pass_piece-requires-clause-open : goal.pass_piece-requires-clause-open
pass_piece-requires-clause-open g c = subst IsOpen (sym c.pieces.invariant.pending) (open_line-open c.pieces.invariant.text)

-- the lines that end in a text and a piece, if the open line of the text is pending
ended : (text came pending : List ℕ) → pending ≡ open_line text → ended_lines (text ++ came) ≡ ended_lines text ++ ended_lines (pending ++ came)
ended text came pending is = ended_lines-append text came ∙ ap (λ bs. ended_lines text ++ ended_lines (bs ++ came)) (sym is)

pub returns-in-Err-pass_piece : goal.returns-in-Err-pass_piece
returns-in-Err-pass_piece g c =
    let inv = c.pieces.invariant in
    let came : List ℕ = take c.in-Ok.count c.read.new.buffer in (
      inv.text ++ came,
      Consumes-more _ _ _ inv.text came inv.bytes c.in-Ok.ensures.bytes.0,
      (c.in-Ok.ensures.failed ∙ inv.works, Stops-of _ _ _ _ _ _ _ (sym (ended inv.text came _ inv.pending)) (Stops-after _ _ (ended_lines inv.text) _ _ _ _ _ _ _ inv.passes c.in-Err-pass_piece.ensures)),
    )

pub pieces-preserved : goal.pieces-preserved
pieces-preserved g c =
    let inv = c.pieces.invariant in
    let came : List ℕ = take c.in-Ok.count c.read.new.buffer in
    let passed = c.in_default.ensures in
    record {
      text = inv.text ++ came;
      bytes = Consumes-more _ _ _ inv.text came inv.bytes c.in-Ok.ensures.bytes.0;
      pending = passed.0 ∙ ap (λ bs. open_line (bs ++ came)) inv.pending ∙ sym (open_line-append inv.text came);
      passes = Passes-of _ _ _ _ _ _ _ (sym (ended inv.text came _ inv.pending)) (Passes-append _ _ _ (ended_lines inv.text) _ _ _ _ _ _ inv.passes passed.1);
      works = c.in-Ok.ensures.failed ∙ inv.works;
    }
