-- SPDX-License-Identifier: Apache-2.0
-- The result of a run (docs/PLAN.md, "A run").
use Rattle.std.specs.Prelude.{ℕ, ◌<◌, Bool, true, false, ◌≡◌, ◌⊎◌, List, [], length, take, Option, Some, None}
use Rattle.std.specs.Str.Lines.{lines}
use Rattle.std.specs.Io.KnownBytes.{Appends, Consumes, IsAtEnd, Keeps}
use Rattle.hll_sketch.specs.Written.{Written}
use Rattle.hll_text.specs.declared.fault.Fault.TheVariants.{Memory, Read, Write}
use Rattle.hll_text.specs.declared.fault.MergeError.{MergeError}
use Rattle.hll_merge.specs.Plan.{Plan, outcome}
use Rattle.hll_text.specs.Text.{ended_lines, line_number, printed_line, reading}
use Rattle.hll_merge.specs.Accepting.{Runs, Accepts, FaultsAtLine, IsFirstFault}
use Rattle.hll_merge.specs.Headline.{Holds}

-- the streams of a run: what the reader had left before and after, whether it failed, whether the writer failed, and what the
-- writer contained before and after
pub record Streams : Type 0 where
  pub before : Option (List ℕ)
  pub after : Option (List ℕ)
  pub reader_failed : Bool
  pub writer_failed : Bool
  pub old : Option (List ℕ)
  pub new : Option (List ℕ)

-- the text is all that the reader had left
abbrev pub IsAllOf : Option (List ℕ) → List ℕ → Type 0
IsAllOf None text = Unit {0}
IsAllOf (Some bytes) text = text ≡ bytes

-- The line is what is printed for the outcome of the text's plan. The outcome is legal, what is written is an image of it, it
-- has the meaning of the plan's inputs, and it agrees with the outcome of every plan over the same inputs.
pub record IsAnswer (text line : List ℕ) : Type 0 where
  pub plan : Plan
  pub accepted : Accepts text plan
  pub holds : Holds plan
  pub bytes : List ℕ
  pub written : Written bytes (outcome plan)
  pub shown : line ≡ printed_line bytes

-- all was read, and exactly the line of the outcome was written
pub record Succeeds (s : Streams) : Type 0 where
  pub reader : s.reader_failed ≡ false
  pub writer : s.writer_failed ≡ false
  pub text : List ℕ
  pub read : Consumes s.before s.after text
  pub whole : IsAtEnd s.after
  pub line : List ℕ
  pub answer : IsAnswer text line
  pub written : Appends s.old s.new line

-- an allocation failed, and nothing was written
pub record LacksMemory (s : Streams) (e : MergeError) : Type 0 where
  pub fault : e.fault ≡ Memory
  pub writer : s.writer_failed ≡ false
  pub unwritten : Keeps s.old s.new

-- the text is not a plan, because of its first fault, and nothing was written; some of the text may not have been read
pub record IsNoPlan (s : Streams) (e : MergeError) : Type 0 where
  pub reader : s.reader_failed ≡ false
  pub writer : s.writer_failed ≡ false
  pub unwritten : Keeps s.old s.new
  pub text : List ℕ
  pub all : IsAllOf s.before text
  pub taken : List ℕ
  pub read : Consumes s.before s.after taken
  pub first : IsFirstFault text e

-- no line that ended is at fault, and this is the number of these lines
pub record AllEndedRun (text : List ℕ) (e : MergeError) : Type 0 where
  pub fault : e.fault ≡ Read
  pub at : e.line ≡ line_number (length (ended_lines text))
  pub stack : List Plan
  pub runs : Runs reading [] (ended_lines text) stack

-- the reader failed after this text: the error is the first fault of its lines that ended, or else Read; nothing was written
pub record ReaderFails (s : Streams) (e : MergeError) : Type 0 where
  pub reader : s.reader_failed ≡ true
  pub writer : s.writer_failed ≡ false
  pub unwritten : Keeps s.old s.new
  pub text : List ℕ
  pub read : Consumes s.before s.after text
  pub first : FaultsAtLine reading (ended_lines text) e ⊎ AllEndedRun text e

-- the writer failed after a proper prefix of the line
pub record WriterFails (s : Streams) (e : MergeError) : Type 0 where
  pub fault : e.fault ≡ Write
  pub reader : s.reader_failed ≡ false
  pub writer : s.writer_failed ≡ true
  pub text : List ℕ
  pub read : Consumes s.before s.after text
  pub whole : IsAtEnd s.after
  pub at : e.line ≡ line_number (length (lines text))
  pub line : List ℕ
  pub answer : IsAnswer text line
  pub sent : ℕ
  pub short : sent < length line
  pub written : Appends s.old s.new (take sent line)

abbrev pub IsRefused : Streams → MergeError → Type 0
IsRefused s e = LacksMemory s e ⊎ (IsNoPlan s e ⊎ (ReaderFails s e ⊎ WriterFails s e))
