-- SPDX-License-Identifier: Apache-2.0
use Rattle.std.proofs.Common.{refl, subst, arith}
use Rattle.std.proofs.lemmas.List.Filters.{dedup_is}
use Rattle.hll_coupons.specs.Coupons.{IsAscending}
use Rattle.hll_coupons.specs.Pair.{set_of}
use Rattle.hll_coupons.proofs.Batches.{once_of_sorted, pairs_of_sorted}
use Rattle.hll_coupons.proofs.batch.CouponBatch.sort.Goals as goal

pub invariant_of-self : goal.invariant_of-self
invariant_of-self g c = (
  pairs_of_sorted _ (λ x y. refl) _ _ _ c.sort_unstable.ensures.permutation (dedup_is _ _ _ c.dedup.ensures.filtered) c.self.invariant.0,
  omega (arith, c.self.invariant.1, c.dedup.ensures.bound, c.sort_unstable.ensures.len),
)

pub returns : goal.returns
returns g c = record {
  ascending = subst (λ all. IsAscending c.dedup.new.self.items (set_of all)) c.self.view_is
      (once_of_sorted _ (λ x y. refl) _ _ _ c.sort_unstable.ensures.permutation c.sort_unstable.ensures.sorted (dedup_is _ _ _ c.dedup.ensures.filtered));
}
