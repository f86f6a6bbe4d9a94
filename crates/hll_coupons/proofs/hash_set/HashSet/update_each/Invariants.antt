-- SPDX-License-Identifier: Apache-2.0
use Rattle.std.proofs.Common.{◌≡◌}
use Rattle.std.specs.FinSet.{union}
use Rattle.hll_coupons.specs.HashSet.{IsHashSet}
use Rattle.hll_coupons.specs.Pair.{set_of}
use Rattle.hll_coupons.specs.Table.{coupons_of}
use Rattle.hll_coupons.proofs.hash_set.HashSet.update_each.Given as goal

-- the coupons so far were added
abbrev pub invariant-loop-coupon : goal.invariant-loop-coupon
invariant-loop-coupon g l = record {
  size : l.self.lg_size ≡ l.initial.self.lg_size;
  members : coupons_of l.self ≡ union (coupons_of l.initial.self) (set_of l.yielded);
  set : IsHashSet l.self;
}
