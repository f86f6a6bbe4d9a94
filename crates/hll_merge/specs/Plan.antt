-- SPDX-License-Identifier: Apache-2.0
-- Merge plans as trees, their inputs and their outcome (docs/MODEL.md, "Plans").
use Rattle.std.specs.Prelude.{◌≡◌, ℕ, min, ◌⊎◌, if◌then◌else◌, List, [], ◌∷◌}
use Rattle.std.specs.FinSet.{empty, union}
use Rattle.hll_coupons.specs.Pair.{Pairs, IsPair, set_of}
use Rattle.hll_base.specs.declared.hll_type.HllType.{HllType}
use Rattle.hll_sketch.specs.Value.{Sketch, pairs_of, has_nonzero_registers, empty_sketch, IsLgK, IsLegal}
use Rattle.hll_sketch.specs.Adding.{add}
use Rattle.hll_sketch.specs.Folding.{folded, IsFoldLgK}
use Rattle.hll_sketch.specs.Merging.{empty_union, merge_all}

-- an empty sketch, the sketch of an image, a plan with one more coupon, a union of plans, or a plan folded to an lg_k
mutual
  pub data Plan : Type 0 where
    new : ℕ → HllType → Plan
    image : Sketch → Plan
    coupon : Plan → ℕ → Plan
    union_plan : ℕ → HllType → Plans → Plan
    fold : Plan → ℕ → Plan

  pub data Plans : Type 0 where
    no_plans : Plans
    more_plans : Plan → Plans → Plans

-- the plans of a list, as the children of a union
abbrev pub plans_of : List Plan → Plans
plans_of [] = no_plans
plans_of (t ∷ ts) = more_plans t (plans_of ts)

-- all pairs of the plan's images and coupons; they don't depend on stages, sizes or order
abbrev mutual
  pub inputs : Plan → Pairs
  inputs (new k w) = empty
  inputs (image x) = pairs_of x
  inputs (coupon t c) = union (inputs t) (set_of (c ∷ []))
  inputs (union_plan m w ts) = inputs_of_each ts
  inputs (fold t e) = inputs t

  pub inputs_of_each : Plans → Pairs
  inputs_of_each no_plans = empty
  inputs_of_each (more_plans t ts) = union (inputs t) (inputs_of_each ts)

-- the sketch that a plan gives: for a union its children's outcomes, merged in turn, at its width
abbrev mutual
  pub outcome : Plan → Sketch
  outcome (new k w) = empty_sketch k w
  outcome (image x) = x
  outcome (coupon t c) = add (outcome t) (set_of (c ∷ []))
  outcome (union_plan m w ts) = record (merge_all m (empty_union m) (outcomes ts)) { width = w }
  outcome (fold t e) = folded (outcome t) e

  pub outcomes : Plans → List Sketch
  outcomes no_plans = []
  outcomes (more_plans t ts) = outcome t ∷ outcomes ts

-- the effective lg_k: for a union the smallest of its bound and of that of each child in registers that are not all 0; for a
-- fold its own
abbrev mutual
  pub effective_lg_k : Plan → ℕ
  effective_lg_k (new k w) = k
  effective_lg_k (image x) = x.lg_k
  effective_lg_k (coupon t c) = effective_lg_k t
  effective_lg_k (union_plan m w ts) = least_of_each m ts
  effective_lg_k (fold t e) = e

  pub least_of_each : ℕ → Plans → ℕ
  least_of_each k no_plans = k
  least_of_each k (more_plans t ts) = least_of_each (if has_nonzero_registers (outcome t) then min k (effective_lg_k t) else k) ts

-- ---- leaves

-- the plan's numbers are in their ranges, its images are legal and have the property, and no plan is folded above its effective lg_k
abbrev mutual
  pub Leaves : (Sketch → Type 0) → Plan → Type 0
  Leaves Q (new k w) = IsLgK k
  Leaves Q (image x) = IsLegal x × Q x
  Leaves Q (coupon t c) = Leaves Q t × IsPair c
  Leaves Q (union_plan m w ts) = IsLgK m × LeavesOfEach Q ts
  Leaves Q (fold t e) = Leaves Q t × IsFoldLgK (effective_lg_k t) e

  pub LeavesOfEach : (Sketch → Type 0) → Plans → Type 0
  LeavesOfEach Q no_plans = Unit {0}
  LeavesOfEach Q (more_plans t ts) = Leaves Q t × LeavesOfEach Q ts

-- a plan whose leaves are legal
abbrev pub IsLegalPlan : Plan → Type 0
IsLegalPlan t = Leaves (λ _. Unit {0}) t

-- an image of the sketch is a leaf of the plan
abbrev mutual
  pub IsLeafOf : Sketch → Plan → Type 0
  IsLeafOf x (new k w) = ⊥
  IsLeafOf x (image y) = x ≡ y
  IsLeafOf x (coupon t c) = IsLeafOf x t
  IsLeafOf x (union_plan m w ts) = IsLeafOfEach x ts
  IsLeafOf x (fold t e) = IsLeafOf x t

  pub IsLeafOfEach : Sketch → Plans → Type 0
  IsLeafOfEach x no_plans = ⊥
  IsLeafOfEach x (more_plans t ts) = IsLeafOf x t ⊎ IsLeafOfEach x ts
