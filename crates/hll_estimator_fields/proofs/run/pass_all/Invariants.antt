-- SPDX-License-Identifier: Apache-2.0
use Rattle.std.proofs.Common.{◌≡◌, ◌-◌, ◌^◌, ℕ, List, false}
use Rattle.std.specs.Io.KnownBytes.{Consumes}
use Rattle.hll_text.specs.Text.{ended_lines, open_line}
use Rattle.hll_estimator_fields.specs.Passing.{Passes}
use Rattle.hll_estimator_fields.proofs.run.pass_all.Given as goal

-- the lines that ended in the text so far were passed on, what follows is pending, and nothing has failed
abbrev pub invariant-pieces : goal.invariant-pieces
invariant-pieces g l = record {
  text : List ℕ;
  bytes : Consumes (g.R.Read.remaining l.initial.reader.inner) (g.R.Read.remaining l.reader.inner) text;
  pending : l.filter.pending.items ≡ open_line text;
  passes : Passes 0 (ended_lines text) l.filter.count (g.W.Write.contents l.initial.writer.inner) (g.W.Write.contents l.writer.inner) l.writer.failed;
  works : l.reader.failed ≡ false;
}

abbrev pub decreases-pieces : goal.decreases-pieces
decreases-pieces g l = 2 ^ 64 - l.reader.reads
