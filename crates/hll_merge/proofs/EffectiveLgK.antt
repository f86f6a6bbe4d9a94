-- SPDX-License-Identifier: Apache-2.0
-- The outcome of a plan has the effective lg_k.
use Rattle.std.proofs.Common.{◌≡◌, ℕ, refl, ap, ◌∙◌}
use Rattle.std.specs.Prelude.{min, if◌then◌else◌}
use Rattle.hll_sketch.specs.Value.{Sketch, has_nonzero_registers}
use Rattle.hll_sketch.specs.Merging.{merge, merge_all, empty_union}
use Rattle.hll_sketch.proofs.Adding.{lg_k-merge}
use Rattle.hll_merge.specs.Plan.{Plan, Plans, new, image, coupon, union_plan, fold, no_plans, more_plans, outcome, outcomes, effective_lg_k, least_of_each}

least_same : (ts : Plans) (k l : ℕ) → k ≡ l → least_of_each k ts ≡ least_of_each l ts
least_same ts k l e = ap (λ n. least_of_each n ts) e

mutual
  pub lg_k-outcome : (t : Plan) → (outcome t).lg_k ≡ effective_lg_k t
  lg_k-outcome (new k w) = refl
  lg_k-outcome (image x) = refl
  lg_k-outcome (coupon t c) = lg_k-outcome t
  lg_k-outcome (union_plan m w ts) = lg_k-merge_all ts m (empty_union m)
  lg_k-outcome (fold t e) = refl

  lg_k-merge_all : (ts : Plans) (m : ℕ) (g : Sketch) → (merge_all m g (outcomes ts)).lg_k ≡ least_of_each g.lg_k ts
  lg_k-merge_all no_plans m g = refl
  lg_k-merge_all (more_plans t ts) m g = lg_k-merge_all ts m (merge m g (outcome t))
      ∙ least_same ts _ _ (lg_k-merge m g (outcome t) ∙ ap (λ l. if has_nonzero_registers (outcome t) then min g.lg_k l else g.lg_k) (lg_k-outcome t))
