-- SPDX-License-Identifier: Apache-2.0
-- Texts that come in pieces (docs/PLAN.md, "In pieces").
use Rattle.std.specs.Prelude.{ℕ, ◌≡◌, ◌==◌, false, List, ◌++◌}
use Rattle.std.specs.List.{All}
use Rattle.std.specs.Str.Lines.{lines}
use Rattle.hll_text.specs.Text.{ended_lines, open_line, line_of_rest}

-- bytes without an LF
abbrev pub IsOpen : List ℕ → Type 0
IsOpen bytes = All (λ b. (b == 10) ≡ false) bytes

-- The lines that end in a text of two pieces are those that end in the first, and then those that end in the open line of the
-- first followed by the second. The same holds for the open line. A text's lines are those that end, and its open line.
pub record CutsAt (a b : List ℕ) : Type 0 where
  pub ended : ended_lines (a ++ b) ≡ ended_lines a ++ ended_lines (open_line a ++ b)
  pub rest : open_line (a ++ b) ≡ open_line (open_line a ++ b)
  pub whole : lines (a ++ b) ≡ ended_lines (a ++ b) ++ line_of_rest (open_line (a ++ b))

abbrev pub LinesOfCuts : Type 0
LinesOfCuts = (a b : List ℕ) → CutsAt a b

-- Pending bytes and a piece. If the piece has an LF, it ends the pending line: `ended` are the lines that ended, `left` are the
-- bytes that are still pending, and `rest` is what is left of the piece.
pub record Closes (pending piece left rest : List ℕ) (ended : List (List ℕ)) : Type 0 where
  pub lines : ended_lines (pending ++ piece) ≡ ended ++ ended_lines rest
  pub open_bytes : open_line (pending ++ piece) ≡ left ++ open_line rest
  pub still : IsOpen left
