-- SPDX-License-Identifier: Apache-2.0
-- Carries out a list of steps, and compares two lists (docs/MODEL.md, "Plan texts").
use Rattle.std.specs.Prelude.{◌≡◌, ℕ, Bool, true, ◌↔◌, List, All, [], length}
use Rattle.hll_sketch.specs.Agree.{Agree}
use Rattle.hll_text.specs.declared.fault.MergeError.{MergeError}
use Rattle.hll_sketch.specs.Layout.{SketchLayout, sketch_of}
use Rattle.hll_merge.specs.Plan.{Plan, inputs, outcome}
use Rattle.hll_merge.specs.Headline.{Holds}
use Rattle.hll_merge.specs.Stack.{AllRepresent}
use Rattle.hll_text.specs.Step.{IsWellFormed}
use Rattle.hll_text.specs.Text.{PlanStep, line_number}
use Rattle.hll_merge.specs.Accepting.{itself, Runs, AcceptsSteps, IsFirstFaultOfSteps}

-- the sketch is the outcome of the plan of a list of steps: it is legal, has the meaning of the plan's inputs, and agrees with
-- the outcome of every plan over the same inputs
pub record IsOutcomeOfSteps (all : List PlanStep) (x : SketchLayout) : Type 0 where
  pub plan : Plan
  pub accepted : AcceptsSteps all plan
  pub holds : Holds plan
  pub value : sketch_of x ≡ outcome plan

-- the steps were carried out in turn, and counted; the sketches are outcomes of the plans that are left
pub record RunsSteps (all : List PlanStep) (xs : List SketchLayout) (number : ℕ) : Type 0 where
  pub plans : List Plan
  pub runs : Runs itself [] all plans
  pub all_represent : AllRepresent xs plans
  pub well_formed : All IsWellFormed all
  pub counted : number ≡ line_number (length all)

-- both lists are accepted, and `agree` says whether their outcomes agree; over the same inputs they do
pub record Compared (left right : List PlanStep) (agree : Bool) : Type 0 where
  pub one : Plan
  pub two : Plan
  pub left_accepted : AcceptsSteps left one
  pub right_accepted : AcceptsSteps right two
  pub left_holds : Holds one
  pub right_holds : Holds two
  pub is : (agree ≡ true) ↔ Agree (outcome one) (outcome two)
  pub same_inputs : inputs one ≡ inputs two → agree ≡ true

-- the left list is not accepted, with this fault; or it is, and the right list is not
pub data Incomparable (left right : List PlanStep) (e : MergeError) : Type 0 where
  left_faulty : IsFirstFaultOfSteps left e → Incomparable left right e
  right_faulty : (one : Plan) → AcceptsSteps left one → IsFirstFaultOfSteps right e → Incomparable left right e
