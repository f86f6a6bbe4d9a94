-- SPDX-License-Identifier: Apache-2.0
-- Over canonical images every outcome is canonical, and the outcome of a union is the `join_value` of its children's.
use Rattle.std.proofs.Common.{ap, sym, subst, [], ◌∷◌}
use Rattle.std.specs.List.{list_any, AllByRecursion}
use Rattle.std.specs.Ordering.{nat_cmp}
use Rattle.std.specs.FinSet.{len-empty}
use Rattle.hll_coupons.specs.Pair.{set_of}
use Rattle.hll_sketch.specs.Stage.{stage}
use Rattle.hll_sketch.specs.Value.{has_nonzero_registers}
use Rattle.hll_sketch.specs.Canonical.{IsCanonicalCleared}
use Rattle.hll_sketch.specs.Joined.{all_pairs, least_lg_k, IsCanonicalOfPairs}
use Rattle.hll_sketch.proofs.Folds.{folded_is_canonical}
use Rattle.hll_sketch.proofs.Joined.{merge_at_width, IsCanonicalCleared-join_value_of_pairs, IsCanonicalCleared-content_with, IsCanonicalOfPairs-from}
use Rattle.hll_merge.specs.Plan.{Plan, Plans, new, image, coupon, union_plan, fold, no_plans, more_plans, inputs, outcome, outcomes, Leaves, LeavesOfEach}
use Rattle.hll_merge.specs.Canonical.{Converges, MergesChildren}
use Rattle.hll_merge.proofs.Outcomes.{good}

mutual
  pub canonical : (t : Plan) → Leaves IsCanonicalCleared t → IsCanonicalCleared (outcome t)
  canonical (new k w) h = ap (stage k 3) (len-empty nat_cmp)
  canonical (image x) h = h.1
  canonical (coupon t c) h = IsCanonicalCleared-content_with (outcome t).lg_k (outcome t).content (set_of (c ∷ [])) (canonical t h.0)
  canonical (fold t e) h = folded_is_canonical (outcome t) e (canonical t h.0)
  canonical (union_plan m w ts) h = subst IsCanonicalCleared (sym (merge_at_width m w (outcomes ts) h.0.high (fits ts h.1))) (IsCanonicalCleared-join_value_of_pairs m w (least_lg_k m (outcomes ts)) (all_pairs (outcomes ts)) (list_any has_nonzero_registers (outcomes ts)))

  pub fits : (ts : Plans) → LeavesOfEach IsCanonicalCleared ts → AllByRecursion IsCanonicalOfPairs (outcomes ts)
  fits no_plans h = tt
  fits (more_plans t ts) h = (IsCanonicalOfPairs-from (outcome t) (inputs t) (good IsCanonicalCleared t h.0) (canonical t h.0), fits ts h.1)

pub converges : (t : Plan) → Leaves IsCanonicalCleared t → Converges t
converges t h = record { canonical = canonical t h; merged_children = of t h }
  where
    of : (t : Plan) → Leaves IsCanonicalCleared t → MergesChildren t
    of (new k w) h = tt
    of (image x) h = tt
    of (coupon t c) h = tt
    of (fold t e) h = tt
    of (union_plan m w ts) h = merge_at_width m w (outcomes ts) h.0.high (fits ts h.1)
