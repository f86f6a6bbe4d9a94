-- SPDX-License-Identifier: Apache-2.0
-- What contracts see of a step: the plan's step, without its allocator (docs/PLAN.md, "The text").
use Rattle.std.specs.Prelude.{◌≡◌, ◌⊎◌, ℕ, true, List, All, ◌<◌, ◌≤◌, ◌^◌, Option, Some, None, Result, Ok, Err}
use denote.Ref.{Bor}
use Rattle.hll_base.specs.declared.error.Reason.{Reason}
use Rattle.hll_base.specs.declared.error.Reason.TheVariants as reasons
use Rattle.hll_text.specs.declared.fault.Fault.{Fault}
use Rattle.hll_text.specs.declared.fault.Fault.TheVariants as faults
use Rattle.hll_text.specs.declared.step.Step.{Step}
use Rattle.hll_text.specs.declared.step.Step.TheVariants as steps
use Rattle.hll_text.specs.declared.step.Line.{Line}
use Rattle.hll_text.specs.declared.step.Line.TheVariants as lines
use Rattle.hll_text.specs.Text.{PlanStep, Reading, names_image, image_reading, new, image, coupon, union, fold}

-- the step of the plan
abbrev pub step_of : {A : Type 0} → Step A → PlanStep
step_of (steps.New k w) = new k w
step_of (steps.Image bytes) = image bytes.items
step_of (steps.Coupon s v) = coupon s v
step_of (steps.Union n m w) = union n m w
step_of (steps.Fold e) = fold e

-- the plan's step or the fault, from the result of a reader of a step
abbrev pub step_reading_of : {A : Type 0} → Result (Step A) Fault → Result PlanStep Fault
step_reading_of (Ok step) = Ok (step_of step)
step_reading_of (Err e) = Err e

-- the line's reading, from the result of a reader of a line
abbrev pub reading_of : {A : Type 0} → Result (Option (Step A)) Fault → Reading
reading_of (Err e) = Err e
reading_of (Ok None) = Ok None
reading_of (Ok (Some step)) = Ok (Some (step_of step))

-- the line's reading, from the result of a reader that leaves the digits of an image as they are
abbrev pub line_reading_of : {A : Type 0} → Result (Line A) Fault → Reading
line_reading_of (Err e) = Err e
line_reading_of (Ok lines.Skipped) = Ok None
line_reading_of (Ok (lines.Image digits)) = image_reading digits.now
line_reading_of (Ok (lines.Step step)) = Ok (Some (step_of step))

-- if a line says an image
abbrev pub IfImage : {A : Type 0} → Line A → Type 0 → Type 0
IfImage lines.Skipped P = Unit {0}
IfImage (lines.Image digits) P = P
IfImage (lines.Step step) P = Unit {0}

-- if a line says another step
abbrev pub IfStep : {A : Type 0} → Line A → (Step A → Type 0) → Type 0
IfStep lines.Skipped P = Unit {0}
IfStep (lines.Image digits) P = Unit {0}
IfStep (lines.Step step) P = P step

-- the bytes of a token or the fault, from the result of a reader of a token
abbrev pub token_of : Result (Bor (List ℕ)) Fault → Result (List ℕ) Fault
token_of (Ok token) = Ok token.now
token_of (Err e) = Err e

-- the result of a reader of a line: what its tokens say, or that an allocation for the bytes of an image failed
abbrev pub ReadsAs : {A : Type 0} → List (List ℕ) → Reading → Result (Option (Step A)) Fault → Type 0
ReadsAs tokens reading r = (reading_of r ≡ reading) ⊎ ((names_image tokens ≡ true) × (r ≡ Err faults.Memory))

-- a step whose numbers are in their ranges
abbrev pub IsInRange : PlanStep → Type 0
IsInRange (new k w) = (4 ≤ k) × (k ≤ 21)
IsInRange (image bytes) = Unit {0}
IsInRange (coupon s v) = (s < 2 ^ 26) × (1 ≤ v) × (v ≤ 63)
IsInRange (union n m w) = (4 ≤ m) × (m ≤ 21)
IsInRange (fold e) = (4 ≤ e) × (e ≤ 21)

-- the bytes of an image are bytes
abbrev pub HasBytes : PlanStep → Type 0
HasBytes (new k w) = Unit {0}
HasBytes (image bytes) = All (λ b. b < 2 ^ 8) bytes
HasBytes (coupon s v) = Unit {0}
HasBytes (union n m w) = Unit {0}
HasBytes (fold e) = Unit {0}

-- a step that a line or a list of steps may say
abbrev pub IsWellFormed : PlanStep → Type 0
IsWellFormed step = IsInRange step × HasBytes step

-- the fault for an error of the crates below
abbrev pub fault_of : Reason → Fault
fault_of reasons.Memory = faults.Memory
fault_of reason = faults.Image reason
