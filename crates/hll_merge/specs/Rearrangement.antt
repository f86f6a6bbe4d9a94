-- SPDX-License-Identifier: Apache-2.0
-- Plans that differ in the order, repetition and grouping of children (docs/MODEL.md, "Convergence").
use Rattle.std.specs.Prelude.{◌≡◌, ℕ, ◌⊎◌}
use Rattle.hll_base.specs.declared.hll_type.HllType.{HllType}
use Rattle.hll_merge.specs.Plan.{Plan, Plans, image, coupon, union_plan, fold, no_plans, more_plans, outcome, Leaves}
use Rattle.hll_sketch.specs.Canonical.{IsCanonicalCleared}

-- the plan is one of the children
abbrev pub IsChild : Plan → Plans → Type 0
IsChild t no_plans = ⊥
IsChild t (more_plans u us) = (t ≡ u) ⊎ IsChild t us

-- each child of one is a child of the other, in any order and any number of times
pub record SameChildren (ts us : Plans) : Type 0 where
  pub there : (t : Plan) → IsChild t ts → IsChild t us
  pub back : (t : Plan) → IsChild t us → IsChild t ts

-- the children of both
abbrev pub both_plans : Plans → Plans → Plans
both_plans no_plans us = us
both_plans (more_plans t ts) us = more_plans t (both_plans ts us)

-- A plan may be stored as its image and read again, children may be reordered or repeated, and some of them may be replaced by
-- one union of the same bound at any width. This may be done anywhere in a plan.
mutual
  pub data IsRearrangement : Plan → Plan → Type 0 where
    reordered : {m : ℕ} {w : HllType} {ts us : Plans} → SameChildren ts us → IsRearrangement (union_plan m w ts) (union_plan m w us)
    grouped : {m : ℕ} {v w : HllType} {ts us : Plans} → IsRearrangement (union_plan m w (more_plans (union_plan m v ts) us)) (union_plan m w (both_plans ts us))
    same : {t : Plan} → IsRearrangement t t
    stored : {t : Plan} → IsRearrangement t (image (outcome t))
    flipped : {t u : Plan} → IsRearrangement u t → IsRearrangement t u
    chained : {t v : Plan} → (u : Plan) → Leaves IsCanonicalCleared u → IsRearrangement t u → IsRearrangement u v → IsRearrangement t v
    below_coupon : {t u : Plan} {c : ℕ} → IsRearrangement t u → IsRearrangement (coupon t c) (coupon u c)
    below_fold : {t u : Plan} {e : ℕ} → IsRearrangement t u → IsRearrangement (fold t e) (fold u e)
    below_union : {m : ℕ} {w : HllType} {ts us : Plans} → AreRearrangements ts us → IsRearrangement (union_plan m w ts) (union_plan m w us)

  pub data AreRearrangements : Plans → Plans → Type 0 where
    none : AreRearrangements no_plans no_plans
    more : {t u : Plan} {ts us : Plans} → IsRearrangement t u → AreRearrangements ts us → AreRearrangements (more_plans t ts) (more_plans u us)

-- over canonical images with cleared fields such plans give equal sketches: pairs, table size, registers and estimate state
abbrev pub RearrangedPlansAgree : Type 0
RearrangedPlansAgree = (t u : Plan) → Leaves IsCanonicalCleared t → Leaves IsCanonicalCleared u → IsRearrangement t u → outcome t ≡ outcome u
