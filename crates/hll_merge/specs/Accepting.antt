-- SPDX-License-Identifier: Apache-2.0
-- Carries out the lines of a text on a stack of plans: which texts are accepted, and what the first fault of others is
-- (docs/PLAN.md, "Steps" and "Faults"; docs/MODEL.md, "Plan texts").
use Rattle.std.specs.Prelude.{◌≡◌, ◌≢◌, ℕ, ◌+◌, ◌<◌, ◌≤◌, ◌⊎◌, List, [], ◌∷◌, ◌++◌, length, Some, None, Ok, Err}
use Rattle.std.specs.Str.Lines.{lines}
use Rattle.hll_base.specs.declared.error.Reason.{Reason}
use Rattle.hll_coupons.specs.Pair.{pair}
use Rattle.hll_sketch.specs.Value.{Sketch}
use Rattle.hll_sketch.specs.Image.{IsReadAs}
use Rattle.hll_sketch.specs.Checks.{first_fault}
use Rattle.hll_text.specs.declared.fault.Fault.{Fault}
use Rattle.hll_text.specs.declared.fault.Fault.TheVariants as faults
use Rattle.hll_text.specs.declared.fault.MergeError.{MergeError}
use Rattle.hll_merge.specs.Plan as plan
use Rattle.hll_merge.specs.Plan.{Plan, plans_of, effective_lg_k}
use Rattle.hll_text.specs.Text.{PlanStep, Reading, reading, line_number, new, image, coupon, union, fold}

-- ---- steps

-- the stack after a step, the last plan last
abbrev pub Carries : List Plan → PlanStep → List Plan → Type 0
Carries ts (new k w) us = us ≡ ts ++ plan.new k w ∷ []
Carries ts (image bytes) us = (x : Sketch) × IsReadAs bytes x × (us ≡ ts ++ plan.image x ∷ [])
Carries ts (coupon s v) us = (front : List Plan) × (t : Plan) × (ts ≡ front ++ t ∷ []) × (us ≡ front ++ plan.coupon t (pair s v) ∷ [])
Carries ts (union n m w) us = (front xs : List Plan) × (ts ≡ front ++ xs) × (length xs ≡ n) × (us ≡ front ++ plan.union_plan m w (plans_of xs) ∷ [])
Carries ts (fold e) us = (front : List Plan) × (t : Plan) × (ts ≡ front ++ t ∷ []) × (e ≤ effective_lg_k t) × (us ≡ front ++ plan.fold t e ∷ [])

-- the last plan has a smaller lg_k, so it cannot be folded to this one
abbrev pub LastPlanIsBelow : List Plan → ℕ → Type 0
LastPlanIsBelow ts e = (front : List Plan) × (t : Plan) × (ts ≡ front ++ t ∷ []) × (effective_lg_k t < e)

-- the fault of a step: the first check that an image fails, too few plans, or a fold above the lg_k
abbrev pub IsFaultOfStep : List Plan → PlanStep → Fault → Type 0
IsFaultOfStep ts (new k w) e = ⊥
IsFaultOfStep ts (image bytes) e = (r : Reason) × (first_fault bytes ≡ Some r) × (e ≡ faults.Image r)
IsFaultOfStep ts (coupon s v) e = (ts ≡ []) × (e ≡ faults.Stack)
IsFaultOfStep ts (union n m w) e = (length ts < n) × (e ≡ faults.Stack)
IsFaultOfStep ts (fold k) e = ((ts ≡ []) × (e ≡ faults.Stack)) ⊎ (LastPlanIsBelow ts k × (e ≡ faults.Fold))

-- a line is a list of bytes in a text, and a step in a list of steps; `reads` says how it is read
module _ {L : Type 0} (reads : L → Reading) where
  -- ---- lines

  -- the stack after a line
  pub data Gives (ts : List Plan) (line : L) (us : List Plan) : Type 0 where
    skipped : reads line ≡ Ok None → us ≡ ts → Gives ts line us
    taken : (step : PlanStep) → reads line ≡ Ok (Some step) → Carries ts step us → Gives ts line us

  -- the fault of a line
  pub data IsFaultOfLine (ts : List Plan) (line : L) (e : Fault) : Type 0 where
    unread : reads line ≡ Err e → IsFaultOfLine ts line e
    refused : (step : PlanStep) → reads line ≡ Ok (Some step) → IsFaultOfStep ts step e → IsFaultOfLine ts line e

  -- the stack after lines in turn
  abbrev pub Runs : List Plan → List L → List Plan → Type 0
  Runs ts [] vs = vs ≡ ts
  Runs ts (line ∷ more) vs = (us : List Plan) × Gives ts line us × Runs us more vs

  -- ---- the first fault

  -- on these plans, and after n lines, one of the lines is at fault, and no line before it
  pub record FaultsFrom (ts : List Plan) (n : ℕ) (all : List L) (e : MergeError) : Type 0 where
    pub front : List L
    pub line : L
    pub rest : List L
    pub is : all ≡ front ++ line ∷ rest
    pub stack : List Plan
    pub runs : Runs ts front stack
    pub fault : IsFaultOfLine stack line e.fault
    pub at : e.line ≡ line_number (n + length front + 1)

  -- a line is at fault, and no line before it
  abbrev pub FaultsAtLine : List L → MergeError → Type 0
  FaultsAtLine all e = FaultsFrom [] 0 all e

  -- on these plans, and after n lines, no line is at fault, and not exactly one plan is left
  pub record LeavesNotOne (ts : List Plan) (n : ℕ) (all : List L) (e : MergeError) : Type 0 where
    pub stack : List Plan
    pub runs : Runs ts all stack
    pub left : length stack ≢ 1
    pub fault : e.fault ≡ faults.Stack
    pub at : e.line ≡ line_number (n + length all)

  abbrev pub FaultsAtEnd : List L → MergeError → Type 0
  FaultsAtEnd all e = LeavesNotOne [] 0 all e

  -- every line is carried out, and one plan is left
  abbrev pub AcceptsLines : List L → Plan → Type 0
  AcceptsLines all t = Runs [] all (t ∷ [])

  abbrev pub IsFirstFaultOfLines : List L → MergeError → Type 0
  IsFirstFaultOfLines all e = FaultsAtLine all e ⊎ FaultsAtEnd all e

-- ---- lists of steps

-- a step is its own line
abbrev pub itself : PlanStep → Reading
itself step = Ok (Some step)

-- the plan of a list of steps
abbrev pub AcceptsSteps : List PlanStep → Plan → Type 0
AcceptsSteps all t = AcceptsLines itself all t

-- the first fault of a list of steps, with the step's number
abbrev pub IsFirstFaultOfSteps : List PlanStep → MergeError → Type 0
IsFirstFaultOfSteps all e = IsFirstFaultOfLines itself all e

-- ---- texts

-- the plan of a text
abbrev pub Accepts : List ℕ → Plan → Type 0
Accepts text t = AcceptsLines reading (lines text) t

-- the first fault of a text
abbrev pub IsFirstFault : List ℕ → MergeError → Type 0
IsFirstFault text e = IsFirstFaultOfLines reading (lines text) e
