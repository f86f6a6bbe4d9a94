-- SPDX-License-Identifier: Apache-2.0
use Rattle.std.proofs.Common.{◌≡◌, ◌+◌, ◌++◌, ℕ, List, length}
use Rattle.hll_text.specs.Text.{line_number, ended_lines, open_line}
use Rattle.hll_merge.specs.Stack.{StackRuns}
use Rattle.hll_merge.proofs.feed.take_piece.Given as goal

-- the lines of the piece before what is left were carried out, and counted
abbrev pub invariant-lines : goal.invariant-lines
invariant-lines g l =
    (front : List (List ℕ)) × (ended_lines l.initial.rest ≡ front ++ ended_lines l.rest) × (open_line l.initial.rest ≡ open_line l.rest)
    × (l.number ≡ line_number (l.initial.number + length front)) × (l.pending.items ≡ l.initial.pending.items) × StackRuns l.initial.stack front l.stack

abbrev pub decreases-lines : goal.decreases-lines
decreases-lines g l = length l.rest
