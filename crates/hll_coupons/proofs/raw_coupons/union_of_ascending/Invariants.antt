-- SPDX-License-Identifier: Apache-2.0
use Rattle.std.proofs.Common.{◌+◌, length}
use Rattle.hll_coupons.proofs.Merging.{WritesRest}
use Rattle.hll_coupons.proofs.raw_coupons.union_of_ascending.Given as goal

abbrev pub invariant-loop-raw_coupon : goal.invariant-loop-raw_coupon
invariant-loop-raw_coupon g l = WritesRest l.fn.left l.fn.right l.coupons l.left l.right

abbrev pub decreases-loop-raw_coupon : goal.decreases-loop-raw_coupon
decreases-loop-raw_coupon g l = length l.left + length l.right
