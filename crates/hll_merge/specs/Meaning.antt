-- SPDX-License-Identifier: Apache-2.0
-- What the outcome of a plan means (docs/MODEL.md, "The meaning of a plan").
use Rattle.std.specs.Prelude.{◌≡◌, ℕ, ◌≤◌, min, true}
use Rattle.hll_coupons.specs.Fold.{fold_to}
use Rattle.hll_sketch.specs.Meaning.{Means}
use Rattle.hll_sketch.specs.Value.{Sketch, pairs_of, has_nonzero_registers}
use Rattle.hll_merge.specs.Plan.{Plan, inputs, outcome, effective_lg_k, IsLegalPlan, IsLeafOf}

-- what holds for the outcome of a plan
pub record HasMeaning (t : Plan) : Type 0 where
  pub lg_k : (outcome t).lg_k ≡ effective_lg_k t
  -- no register image of the plan has a smaller lg_k than the outcome
  pub lowest : (x : Sketch) → IsLeafOf x t → has_nonzero_registers x ≡ true → effective_lg_k t ≤ x.lg_k
  -- coupons are all inputs, with their whole slots; registers have at each slot the greatest value among the inputs that fold
  -- to it, or 0
  pub meaning : Means (effective_lg_k t) (outcome t).content (inputs t)
  -- and the same holds at each smaller lg_k
  pub folded : (e : ℕ) → e ≤ effective_lg_k t → fold_to (pairs_of (outcome t)) e ≡ fold_to (inputs t) e

-- ---- laws

-- each legal plan has its meaning
abbrev pub PlansHaveMeaning : Type 0
PlansHaveMeaning = (t : Plan) → IsLegalPlan t → HasMeaning t

-- the outcomes of two plans fold to the same registers at the smaller effective lg_k
abbrev pub AgreeFolded : Plan → Plan → Type 0
AgreeFolded t u = let e = min (effective_lg_k t) (effective_lg_k u) in fold_to (pairs_of (outcome t)) e ≡ fold_to (pairs_of (outcome u)) e

-- two plans over the same inputs agree once both are folded to the smaller effective lg_k
abbrev pub SameInputsAgree : Type 0
SameInputsAgree = (t u : Plan) → IsLegalPlan t → IsLegalPlan u → inputs t ≡ inputs u → AgreeFolded t u
