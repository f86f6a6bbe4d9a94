-- SPDX-License-Identifier: Apache-2.0
-- Plans over canonical images with cleared fields (docs/MODEL.md, "Convergence").
use Rattle.std.specs.Prelude.{◌≡◌}
use Rattle.hll_sketch.specs.Canonical.{IsCanonicalCleared}
use Rattle.hll_sketch.specs.Joined.{join_value}
use Rattle.hll_merge.specs.Plan.{Plan, new, image, coupon, union_plan, fold, outcome, outcomes, Leaves}

-- the outcome of a union is the `join_value` of its children's outcomes
abbrev pub MergesChildren : Plan → Type 0
MergesChildren (new k w) = Unit {0}
MergesChildren (image x) = Unit {0}
MergesChildren (coupon t c) = Unit {0}
MergesChildren (fold t e) = Unit {0}
MergesChildren (union_plan m w ts) = outcome (union_plan m w ts) ≡ join_value m w (outcomes ts)

-- what holds for a plan whose images are canonical with cleared fields
pub record Converges (t : Plan) : Type 0 where
  pub canonical : IsCanonicalCleared (outcome t)
  pub merged_children : MergesChildren t

abbrev pub CanonicalPlansConverge : Type 0
CanonicalPlansConverge = (t : Plan) → Leaves IsCanonicalCleared t → Converges t
