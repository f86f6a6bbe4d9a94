-- SPDX-License-Identifier: Apache-2.0
-- What the filter of images writes for lines (docs/PLAN.md, "Estimator fields").
use Rattle.std.specs.Prelude.{◌≡◌, ◌⊎◌, ℕ, ◌+◌, ◌<◌, true, false, Bool, List, [], ◌∷◌, ◌++◌, length, take, Option, Some, Ok, Err}
use Rattle.std.specs.Io.KnownBytes.{Appends}
use Rattle.hll_base.specs.declared.error.Reason.{Reason}
use Rattle.hll_sketch.specs.Checks.{first_fault}
use Rattle.hll_sketch.specs.EstimatorFields.{SetsFields}
use Rattle.hll_sketch.specs.Image.{IsReadAs}
use Rattle.hll_sketch.specs.Value.{Sketch}
use Rattle.hll_sketch.specs.Written.{Written}
use Rattle.hll_text.specs.declared.fault.Fault.{Fault}
use Rattle.hll_text.specs.declared.fault.Fault.TheVariants.{Hex, Memory, Write}
use Rattle.hll_text.specs.declared.fault.MergeError.{MergeError}
use Rattle.hll_text.specs.Step.{fault_of}
use Rattle.hll_text.specs.Text.{image, image_step, line_number, printed_line}

-- what is written for bytes that are read as a sketch: the image of that sketch with its fields set
pub record IsWithFields (bytes new : List ℕ) : Type 0 where
  pub sketch : Sketch
  pub read : IsReadAs bytes sketch
  pub changed : Sketch
  pub fields : SetsFields sketch changed
  pub written : Written new changed

-- the line is hexadecimal digits of an image, and this is printed for it
pub record IsPassed (line printed : List ℕ) : Type 0 where
  pub bytes : List ℕ
  pub digits : image_step line ≡ Ok (image bytes)
  pub new : List ℕ
  pub fields : IsWithFields bytes new
  pub shown : printed ≡ printed_line new

-- the line isn't hexadecimal digits, or its bytes fail this check first
abbrev pub IsRefusedFor : List ℕ → Fault → Type 0
IsRefusedFor line e = ((image_step line ≡ Err Hex) × (e ≡ Hex))
    ⊎ ((bytes : List ℕ) × (image_step line ≡ Ok (image bytes)) × (r : Reason) × (first_fault bytes ≡ Some r) × (e ≡ fault_of r))

-- what is printed for lines, one after the other
abbrev pub ArePassed : List (List ℕ) → List ℕ → Type 0
ArePassed [] out = out ≡ []
ArePassed (line ∷ more) out = (printed rest : List ℕ) × IsPassed line printed × ArePassed more rest × (out ≡ printed ++ rest)

-- why one line is not passed on, what the writer contained before and after, and whether it has failed: an allocation
-- failed or the line is rejected, and nothing of it was written; or the writer failed before all of it was written
abbrev pub StopsLine : List ℕ → Option (List ℕ) → Option (List ℕ) → Bool → Fault → Type 0
StopsLine line old new failed e = ((failed ≡ false) × Appends old new [] × ((e ≡ Memory) ⊎ IsRefusedFor line e))
    ⊎ ((failed ≡ true) × (e ≡ Write) × (printed : List ℕ) × IsPassed line printed × (n : ℕ) × (n < length printed) × Appends old new (take n printed))

-- ---- stops: what a writer contained before and after, and whether it has failed

-- the first lines were passed on; then an allocation failed
pub record LacksMemory (ls : List (List ℕ)) (old new : Option (List ℕ)) (failed : Bool) (e : MergeError) : Type 0 where
  pub fault : e.fault ≡ Memory
  pub front : List (List ℕ)
  pub rest : List (List ℕ)
  pub is : ls ≡ front ++ rest
  pub out : List ℕ
  pub passed : ArePassed front out
  pub written : Appends old new out
  pub works : failed ≡ false

-- the first lines, after a number of others, were passed on; the next line is rejected, and nothing of it was written
pub record Refuses (count : ℕ) (ls : List (List ℕ)) (old new : Option (List ℕ)) (failed : Bool) (e : MergeError) : Type 0 where
  pub front : List (List ℕ)
  pub line : List ℕ
  pub rest : List (List ℕ)
  pub is : ls ≡ front ++ line ∷ rest
  pub at : e.line ≡ line_number (count + length front + 1)
  pub fault : IsRefusedFor line e.fault
  pub out : List ℕ
  pub passed : ArePassed front out
  pub written : Appends old new out
  pub works : failed ≡ false

-- the first lines were passed on; the writer failed before all of the next one was written
pub record CutsOff (count : ℕ) (ls : List (List ℕ)) (old new : Option (List ℕ)) (failed : Bool) (e : MergeError) : Type 0 where
  pub fault : e.fault ≡ Write
  pub front : List (List ℕ)
  pub line : List ℕ
  pub rest : List (List ℕ)
  pub is : ls ≡ front ++ line ∷ rest
  pub at : e.line ≡ line_number (count + length front + 1)
  pub out : List ℕ
  pub passed : ArePassed front out
  pub printed : List ℕ
  pub next : IsPassed line printed
  pub sent : ℕ
  pub short : sent < length printed
  pub written : Appends old new (out ++ take sent printed)
  pub fails : failed ≡ true

abbrev pub Stops : ℕ → List (List ℕ) → Option (List ℕ) → Option (List ℕ) → Bool → MergeError → Type 0
Stops count ls old new failed e = LacksMemory ls old new failed e ⊎ (Refuses count ls old new failed e ⊎ CutsOff count ls old new failed e)

-- these lines, after a number of others, were passed on and counted
pub record Passes (count : ℕ) (ls : List (List ℕ)) (after : ℕ) (old new : Option (List ℕ)) (failed : Bool) : Type 0 where
  pub number : after ≡ line_number (count + length ls)
  pub out : List ℕ
  pub passed : ArePassed ls out
  pub written : Appends old new out
  pub works : failed ≡ false
