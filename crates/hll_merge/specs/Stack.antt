-- SPDX-License-Identifier: Apache-2.0
-- The sketches of a run, and the plans that they are outcomes of (docs/ARCHITECTURE.md, "A run").
use Rattle.std.specs.Prelude.{◌≡◌, ◌<◌, ◌⊎◌, ℕ, List, [], ◌∷◌, ◌++◌, map, take, drop}
use Rattle.hll_base.specs.declared.hll_type.HllType.{HllType}
use Rattle.hll_sketch.specs.Layout.{SketchLayout, sketch_of}
use Rattle.hll_sketch.specs.Merging.{merge_all, empty_union}
use Rattle.hll_sketch.specs.Value.{Sketch}
use Rattle.hll_text.specs.declared.fault.Fault.{Fault}
use Rattle.hll_text.specs.declared.fault.Fault.TheVariants.{Memory}
use Rattle.hll_text.specs.declared.fault.MergeError.{MergeError}
use Rattle.hll_text.specs.Text.{PlanStep, Reading, reading}
use Rattle.hll_merge.specs.Plan.{Plan, outcome}
use Rattle.hll_merge.specs.Accepting.{Carries, IsFaultOfStep, Gives, IsFaultOfLine, Runs, FaultsFrom}

-- the sketch is the plan's outcome
abbrev pub Represents : SketchLayout → Plan → Type 0
Represents x t = sketch_of x ≡ outcome t

-- each sketch of a stack is its plan's outcome
abbrev pub AllRepresent : List SketchLayout → List Plan → Type 0
AllRepresent [] [] = Unit {0}
AllRepresent [] (t ∷ ts) = ⊥
AllRepresent (x ∷ xs) [] = ⊥
AllRepresent (x ∷ xs) (t ∷ ts) = Represents x t × AllRepresent xs ts

-- the last sketch was replaced by another, and the others are unchanged
pub record ReplacesLast (old : List SketchLayout) (IsFor : Sketch → Sketch → Type 0) (new : List SketchLayout) : Type 0 where
  pub front : List SketchLayout
  pub last : SketchLayout
  pub made : SketchLayout
  pub is : old ≡ front ++ last ∷ []
  pub value : IsFor (sketch_of last) (sketch_of made)
  pub gives : new ≡ front ++ made ∷ []

-- the last sketch has a smaller lg_k
pub record LastIsBelow (old : List SketchLayout) (e : ℕ) : Type 0 where
  pub front : List SketchLayout
  pub last : SketchLayout
  pub is : old ≡ front ++ last ∷ []
  pub below : (sketch_of last).lg_k < e

-- the sketches from an index on were replaced by their union under a bound, at a width, and the sketches before it are
-- unchanged
pub record MergesTail (at bound : ℕ) (width : HllType) (old new : List SketchLayout) : Type 0 where
  pub made : SketchLayout
  pub value : sketch_of made ≡ record (merge_all bound (empty_union bound) (map sketch_of (drop at old))) { width = width }
  pub gives : new ≡ take at old ++ made ∷ []

-- ---- steps and lines, whatever plans the old sketches are outcomes of

-- the new sketches are outcomes of the plans after the step
abbrev pub StackCarries : List SketchLayout → PlanStep → List SketchLayout → Type 0
StackCarries old step new = (ts : List Plan) → AllRepresent old ts → (us : List Plan) × Carries ts step us × AllRepresent new us

-- an allocation failed, or this is the fault of the step
abbrev pub StackRefuses : List SketchLayout → PlanStep → Fault → Type 0
StackRefuses old step e = (ts : List Plan) → AllRepresent old ts → (e ≡ Memory) ⊎ IsFaultOfStep ts step e

-- a line, or the digits of an image, by how they are read
module _ (reads : List ℕ → Reading) where
  -- the new sketches are outcomes of the plans after the line
  abbrev pub StackGives : List SketchLayout → List ℕ → List SketchLayout → Type 0
  StackGives old line new = (ts : List Plan) → AllRepresent old ts → (us : List Plan) × Gives reads ts line us × AllRepresent new us

  -- an allocation failed, or this is the fault of the line
  abbrev pub StackFaults : List SketchLayout → List ℕ → Fault → Type 0
  StackFaults old line e = (ts : List Plan) → AllRepresent old ts → (e ≡ Memory) ⊎ IsFaultOfLine reads ts line e

-- the new sketches are outcomes of the plans after the lines, in turn
abbrev pub StackRuns : List SketchLayout → List (List ℕ) → List SketchLayout → Type 0
StackRuns old lines new = (ts : List Plan) → AllRepresent old ts → (us : List Plan) × Runs reading ts lines us × AllRepresent new us

-- an allocation failed, or one of these lines is at fault, and no line before it; `n` lines came before all of these
abbrev pub StackStops : List SketchLayout → ℕ → List (List ℕ) → MergeError → Type 0
StackStops old n lines e = (ts : List Plan) → AllRepresent old ts → (e.fault ≡ Memory) ⊎ FaultsFrom reading ts n lines e
