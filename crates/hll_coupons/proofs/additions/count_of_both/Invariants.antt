-- SPDX-License-Identifier: Apache-2.0
use Rattle.std.proofs.Common.{◌≡◌}
use Rattle.std.specs.FinSet.{len, union}
use Rattle.hll_coupons.specs.Pair.{set_of}
use Rattle.hll_coupons.proofs.additions.count_of_both.Given as goal

-- the count of the set's coupons together with the coupons so far
abbrev pub invariant-loop-coupon : goal.invariant-loop-coupon
invariant-loop-coupon g l = l.count ≡ len (union (set_of l.own) (set_of l.yielded))
