-- SPDX-License-Identifier: Apache-2.0
use Rattle.std.proofs.Common.{◌≡◌}
use Rattle.std.specs.FinSet.{union}
use Rattle.hll_coupons.specs.Pair.{set_of}
use Rattle.hll_coupons.specs.Table.{coupons_of}
use Rattle.hll_sketch.proofs.additions.update_each.Given as goal

-- the coupons so far were added
abbrev pub invariant-loop-coupon : goal.invariant-loop-coupon
invariant-loop-coupon g l = record {
  size : l.list.lg_size ≡ l.initial.list.lg_size;
  members : coupons_of l.list ≡ union (coupons_of l.initial.list) (set_of l.yielded);
}
