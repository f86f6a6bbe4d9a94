-- SPDX-License-Identifier: Apache-2.0
-- Laws of plan texts and of lists of steps (docs/MODEL.md, "Plan texts").
use Rattle.std.specs.Prelude.{◌≡◌, ◌≢◌, ℕ, List}
use Rattle.hll_base.specs.declared.error.Reason.{Reason}
use Rattle.hll_base.specs.declared.error.ErrorKind.TheVariants.{InvalidData}
use Rattle.hll_base.specs.Reason.{kind_of}
use Rattle.hll_text.specs.declared.fault.Fault.{Fault}
use Rattle.hll_text.specs.declared.fault.Fault.TheVariants as faults
use Rattle.hll_text.specs.declared.fault.MergeError.{MergeError}
use Rattle.hll_text.specs.Text.{PlanStep, reading}
use Rattle.hll_merge.specs.Plan.{Plan}
use Rattle.hll_merge.specs.Accepting.{Accepts, AcceptsSteps, IsFirstFault, IsFirstFaultOfLines, IsFirstFaultOfSteps}

-- a text has one plan, and so has a list of steps
pub record OnePlan : Type 0 where
  pub of_text : (text : List ℕ) (t u : Plan) → Accepts text t → Accepts text u → t ≡ u
  pub of_steps : (all : List PlanStep) (t u : Plan) → AcceptsSteps all t → AcceptsSteps all u → t ≡ u

-- a text has one first fault, and so has a list of steps
pub record OneFirstFault : Type 0 where
  pub of_text : (text : List ℕ) (d e : MergeError) → IsFirstFault text d → IsFirstFault text e → d ≡ e
  pub of_steps : (all : List PlanStep) (d e : MergeError) → IsFirstFaultOfSteps all d → IsFirstFaultOfSteps all e → d ≡ e

-- a text that is accepted has no first fault, and neither has such a list of steps
pub record AcceptedIsFaultless : Type 0 where
  pub of_text : (text : List ℕ) (t : Plan) (e : MergeError) → Accepts text t → IsFirstFault text e → ⊥
  pub of_steps : (all : List PlanStep) (t : Plan) (e : MergeError) → AcceptsSteps all t → IsFirstFaultOfSteps all e → ⊥

-- the fault of a text itself is not one of memory or of a stream, and the fault of an image is one of its data
pub record IsOwnFault (e : Fault) : Type 0 where
  pub not_memory : e ≢ faults.Memory
  pub not_read : e ≢ faults.Read
  pub not_write : e ≢ faults.Write
  pub of_data : (r : Reason) → e ≡ faults.Image r → kind_of r ≡ InvalidData

-- first faults of any lines, and of a list of steps, are faults of the text itself
pub record FirstFaultsAreOwn : Type 0 where
  pub of_lines : (all : List (List ℕ)) (e : MergeError) → IsFirstFaultOfLines reading all e → IsOwnFault e.fault
  pub of_steps : (all : List PlanStep) (e : MergeError) → IsFirstFaultOfSteps all e → IsOwnFault e.fault
