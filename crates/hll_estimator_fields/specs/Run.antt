-- SPDX-License-Identifier: Apache-2.0
-- The result of a run of the filter (docs/PLAN.md, "Estimator fields").
use Rattle.std.specs.Prelude.{◌≡◌, ◌⊎◌, ℕ, true, false, Bool, List, length, Option}
use Rattle.std.specs.Str.Lines.{lines}
use Rattle.std.specs.Io.KnownBytes.{Appends, Consumes, IsAtEnd}
use Rattle.hll_text.specs.declared.fault.Fault.TheVariants.{Read}
use Rattle.hll_text.specs.declared.fault.MergeError.{MergeError}
use Rattle.hll_text.specs.Text.{ended_lines, line_number}
use Rattle.hll_estimator_fields.specs.Passing.{ArePassed, Stops}

-- the streams of a run: what the reader had left before and after, whether it failed, what the writer contained before and
-- after, and whether that failed
pub record Streams : Type 0 where
  pub before : Option (List ℕ)
  pub after : Option (List ℕ)
  pub reader_failed : Bool
  pub old : Option (List ℕ)
  pub new : Option (List ℕ)
  pub writer_failed : Bool

-- all was read, and every line of it was passed on
pub record Succeeds (s : Streams) : Type 0 where
  pub reader : s.reader_failed ≡ false
  pub writer : s.writer_failed ≡ false
  pub text : List ℕ
  pub read : Consumes s.before s.after text
  pub whole : IsAtEnd s.after
  pub out : List ℕ
  pub passed : ArePassed (lines text) out
  pub written : Appends s.old s.new out

-- a stop at a line of the text that was read: a line that ended, or the last line if there is no more text
pub record StopsAtLine (s : Streams) (e : MergeError) : Type 0 where
  pub reader : s.reader_failed ≡ false
  pub taken : List ℕ
  pub read : Consumes s.before s.after taken
  pub ls : List (List ℕ)
  pub lines_of : (ls ≡ ended_lines taken) ⊎ (IsAtEnd s.after × (ls ≡ lines taken))
  pub stop : Stops 0 ls s.old s.new s.writer_failed e

-- the reader failed, and every line that had ended was passed on
pub record ReaderFails (s : Streams) (e : MergeError) : Type 0 where
  pub fault : e.fault ≡ Read
  pub reader : s.reader_failed ≡ true
  pub writer : s.writer_failed ≡ false
  pub taken : List ℕ
  pub read : Consumes s.before s.after taken
  pub at : e.line ≡ line_number (length (ended_lines taken))
  pub out : List ℕ
  pub passed : ArePassed (ended_lines taken) out
  pub written : Appends s.old s.new out

abbrev pub IsRefused : Streams → MergeError → Type 0
IsRefused s e = StopsAtLine s e ⊎ ReaderFails s e
