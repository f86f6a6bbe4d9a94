-- SPDX-License-Identifier: Apache-2.0
-- What an accepted plan promises of its outcome (docs/MODEL.md, "The meaning of a plan").
use Rattle.std.specs.Prelude.{◌≡◌, ℕ, List, All}
use Rattle.hll_sketch.specs.Canonical.{IsCanonicalCleared}
use Rattle.hll_sketch.specs.Value.{IsLegal}
use Rattle.hll_sketch.specs.Image.{Image}
use Rattle.hll_sketch.specs.Written.{Written}
use Rattle.hll_merge.specs.Plan.{Plan, inputs, outcome, Leaves, IsLegalPlan}
use Rattle.hll_merge.specs.Canonical.{Converges}
use Rattle.hll_merge.specs.Rearrangement.{IsRearrangement}
use Rattle.hll_merge.specs.Meaning.{HasMeaning, AgreeFolded}
use Rattle.hll_text.specs.Step.{IsWellFormed}
use Rattle.hll_text.specs.Text.{PlanStep}
use Rattle.hll_merge.specs.Accepting.{Accepts, AcceptsSteps}

-- the outcome of a legal plan is a legal sketch
abbrev pub OutcomeIsLegal : Type 0
OutcomeIsLegal = (t : Plan) → IsLegalPlan t → IsLegal (outcome t)

-- what holds for a plan over canonical images with cleared fields
pub record ConvergesAnywhere (t : Plan) : Type 0 where
  -- its outcome is canonical with cleared fields, and the outcome of a union is the `join_value` of its children's
  pub canonical : Converges t
  -- children may be reordered, repeated and grouped, and parts stored, anywhere in a plan: pairs, table size, registers and
  -- estimate state are equal
  pub rearranged : (u : Plan) → Leaves IsCanonicalCleared u → IsRearrangement t u → outcome u ≡ outcome t
  -- and the bytes are the same
  pub same_bytes : (u : Plan) (a b : List ℕ) → Leaves IsCanonicalCleared u → IsRearrangement t u → Written a (outcome t) → Written b (outcome u) → a ≡ b

abbrev pub CanonicalPlansConvergeAnywhere : Type 0
CanonicalPlansConvergeAnywhere = (t : Plan) → Leaves IsCanonicalCleared t → ConvergesAnywhere t

-- what holds for the plan of an accepted text or list of steps
pub record Holds (t : Plan) : Type 0 where
  pub legal_plan : IsLegalPlan t
  pub legal : IsLegal (outcome t)
  -- at each slot the greatest value among the inputs folded to the effective lg_k, or 0
  pub meaning : HasMeaning t
  -- what is written for the outcome is an image of it
  pub image : (bytes : List ℕ) → Written bytes (outcome t) → Image bytes (outcome t)
  -- every plan over the same inputs agrees with it, once both are folded to the smaller effective lg_k
  pub agrees : (u : Plan) → IsLegalPlan u → inputs u ≡ inputs t → AgreeFolded t u
  -- if its images are canonical with cleared fields, order, repetition and grouping make no difference
  pub converges : Leaves IsCanonicalCleared t → ConvergesAnywhere t

-- the plan of a text, and that of a list of steps whose numbers and bytes are in their ranges
pub record AcceptedPlansHold : Type 0 where
  pub of_text : (text : List ℕ) (t : Plan) → Accepts text t → Holds t
  pub of_steps : (all : List PlanStep) (t : Plan) → All IsWellFormed all → AcceptsSteps all t → Holds t
