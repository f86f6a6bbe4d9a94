-- SPDX-License-Identifier: Apache-2.0
use Rattle.std.proofs.Common.{refl, subst, sym}
use Rattle.std.specs.List.Sorted.{IsStrictlyIncreasing}
use Rattle.hll_coupons.proofs.Ascending.{ascending_from_sort, distinct-ascending, distinct-sorted}
use Rattle.hll_coupons.proofs.distinct.are_distinct.Goals as goal

pub returns-then-ascend-clause-ok : goal.returns-then-ascend-clause-ok
returns-then-ascend-clause-ok g c = (λ t. distinct-ascending c.args.coupons.now (c.ascend.ensures.0 c.if-ascend.true), λ once. refl)

pub returns-clause-ok : goal.returns-clause-ok
returns-clause-ok g c = (
  λ t. distinct-sorted c.args.coupons.now c.in_ok-sorted.sorted.items c.sort_unstable.new.self.items c.in_ok-sorted.ensures.items c.sort_unstable.ensures.permutation
      (subst IsStrictlyIncreasing c.deref.ensures.value (c.ascend-2.ensures.0 t)),
  λ once. c.ascend-2.ensures.1 (subst IsStrictlyIncreasing (sym c.deref.ensures.value)
      (ascending_from_sort c.args.coupons.now c.in_ok-sorted.sorted.items c.sort_unstable.new.self.items c.in_ok-sorted.ensures.items once c.sort_unstable.ensures.permutation c.sort_unstable.ensures.sorted).increasing),
)
