-- SPDX-License-Identifier: Apache-2.0
use Rattle.std.proofs.Common.{◌≡◌}
use Rattle.std.specs.FinSet.{len, union}
use Rattle.hll_coupons.specs.Pair.{set_of}
use Rattle.hll_coupons.specs.Table.{coupons_of}
use Rattle.hll_sketch.proofs.additions.count_with.Given as goal

-- the coupons of the list, and the coupons so far
abbrev pub invariant-loop-coupon : goal.invariant-loop-coupon
invariant-loop-coupon g l = l.count ≡ len (union (coupons_of l.fn.list) (set_of l.yielded))
