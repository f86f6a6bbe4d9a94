-- SPDX-License-Identifier: Apache-2.0
-- A plan that comes in pieces (docs/PLAN.md, "In pieces").
use Rattle.std.specs.Prelude.{ℕ, ◌≡◌, ◌⊎◌, ◌+◌, List, [], ◌∷◌, ◌++◌, length, Option, Some, None}
use Rattle.hll_sketch.specs.Layout.{SketchLayout, sketch_of}
use Rattle.hll_text.specs.declared.fault.Fault.TheVariants.{Memory}
use Rattle.hll_text.specs.declared.fault.MergeError.{MergeError}
use Rattle.hll_text.specs.Text.{ended_lines, open_line, line_of_rest, line_number, reading}
use Rattle.hll_merge.specs.Plan.{Plan, outcome}
use Rattle.hll_merge.specs.Accepting.{Runs, FaultsFrom, LeavesNotOne, FaultsAtLine, Accepts, IsFirstFault}
use Rattle.hll_merge.specs.Headline.{Holds}
use Rattle.hll_merge.specs.Stack.{AllRepresent, StackRuns, StackStops}

-- sketches, the bytes after the last LF, the number of lines that ended, and the fault that was found
pub record Feed : Type 0 where
  pub stack : List SketchLayout
  pub pending : List ℕ
  pub count : ℕ
  pub fault : Option MergeError

-- no text yet
abbrev pub unfed : Feed
unfed = record { stack = []; pending = []; count = 0; fault = None }

-- the text to carry out when a piece comes
abbrev pub text_with : Feed → List ℕ → List ℕ
text_with s piece = s.pending ++ piece

-- the lines that end in this text were carried out in turn on the old sketches, and counted; the bytes after them are pending
pub record TakesPiece (old : Feed) (piece : List ℕ) (new : Feed) : Type 0 where
  pub fault : new.fault ≡ None
  pub pending : new.pending ≡ open_line (text_with old piece)
  pub count : new.count ≡ line_number (old.count + length (ended_lines (text_with old piece)))
  pub runs : StackRuns old.stack (ended_lines (text_with old piece)) new.stack

-- An allocation failed, or a line that ends in this text is at fault, and no line before it. The fault is kept, and nothing is
-- pending.
pub record RefusesPiece (old : Feed) (piece : List ℕ) (new : Feed) (e : MergeError) : Type 0 where
  pub fault : new.fault ≡ Some e
  pub pending : new.pending ≡ []
  pub first : StackStops old.stack old.count (ended_lines (text_with old piece)) e

-- the line that has not ended, if it has bytes, was carried out on the sketches, and exactly this sketch is left
abbrev pub Finishes : Feed → SketchLayout → Type 0
Finishes s x = StackRuns s.stack (line_of_rest s.pending) (x ∷ [])

-- an allocation failed; or that line is at fault; or it isn't, and not exactly one sketch is left
abbrev pub RefusesEnd : Feed → MergeError → Type 0
RefusesEnd s e = (ts : List Plan) → AllRepresent s.stack ts
    → (e.fault ≡ Memory) ⊎ (FaultsFrom reading ts s.count (line_of_rest s.pending) e ⊎ LeavesNotOne reading ts s.count (line_of_rest s.pending) e)

-- ---- streams

-- the state of a feed after this text, however it was cut
pub data IsFedBy (text : List ℕ) (s : Feed) : Type 0 where
  going : s.fault ≡ None → s.pending ≡ open_line text → s.count ≡ line_number (length (ended_lines text))
      → (ts : List Plan) → Runs reading [] (ended_lines text) ts → AllRepresent s.stack ts → IsFedBy text s
  stopped : (e : MergeError) → s.fault ≡ Some e → s.pending ≡ []
      → (e.fault ≡ Memory) ⊎ FaultsAtLine reading (ended_lines text) e → IsFedBy text s

-- the sketch is the outcome of the text's plan: it is legal, has the meaning of the plan's inputs, and agrees with the outcome
-- of every plan over the same inputs
pub record IsOutcomeOf (text : List ℕ) (x : SketchLayout) : Type 0 where
  pub plan : Plan
  pub accepted : Accepts text plan
  pub holds : Holds plan
  pub value : sketch_of x ≡ outcome plan

-- an allocation failed, or this is the first fault of the text
abbrev pub StopsText : List ℕ → MergeError → Type 0
StopsText text e = (e.fault ≡ Memory) ⊎ IsFirstFault text e

-- Two feeds of one text. Either neither failed, and they have the same bytes pending, the same count, and sketches that are
-- outcomes of the same plans; or both failed, with the same fault unless an allocation failed.
abbrev pub AgreeBy : Option MergeError → Option MergeError → Feed → Feed → Type 0
AgreeBy None None s u = (s.pending ≡ u.pending) × (s.count ≡ u.count) × ((ts : List Plan) × AllRepresent s.stack ts × AllRepresent u.stack ts)
AgreeBy None (Some e) s u = e.fault ≡ Memory
AgreeBy (Some d) None s u = d.fault ≡ Memory
AgreeBy (Some d) (Some e) s u = (d.fault ≡ Memory) ⊎ ((e.fault ≡ Memory) ⊎ (d ≡ e))

-- the law of cuts: it doesn't matter how a text was cut
abbrev pub CutsAgree : Type 0
CutsAgree = (text : List ℕ) (s u : Feed) → IsFedBy text s → IsFedBy text u → AgreeBy s.fault u.fault s u
