-- SPDX-License-Identifier: Apache-2.0
use Rattle.std.proofs.Common.{◌≡◌, ◌++◌, ℕ, List, length}
use Rattle.hll_text.specs.Cuts.{IsOpen}
use Rattle.hll_text.specs.Text.{ended_lines, open_line}
use Rattle.hll_estimator_fields.specs.Passing.{Passes}
use Rattle.hll_estimator_fields.proofs.filter.Filter.pass_piece.Given as goal

-- the lines before the rest of the piece were passed on
abbrev pub invariant-lines : goal.invariant-lines
invariant-lines g l = record {
  front : List (List ℕ);
  ended : ended_lines (l.initial.self.pending.items ++ l.initial.rest) ≡ front ++ ended_lines (l.self.pending.items ++ l.rest);
  rest : open_line (l.initial.self.pending.items ++ l.initial.rest) ≡ open_line (l.self.pending.items ++ l.rest);
  open_bytes : IsOpen l.self.pending.items;
  passes : Passes l.initial.self.count front l.self.count (g.W.Write.contents l.initial.writer.inner) (g.W.Write.contents l.writer.inner) l.writer.failed;
}

abbrev pub decreases-lines : goal.decreases-lines
decreases-lines g l = length l.rest
