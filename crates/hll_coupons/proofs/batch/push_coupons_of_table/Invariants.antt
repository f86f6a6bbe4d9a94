-- SPDX-License-Identifier: Apache-2.0
use Rattle.std.proofs.Common.{◌≡◌, ◌++◌}
use Rattle.hll_coupons.proofs.batch.push_coupons_of_table.Given as goal

-- the coupons so far are after those that were there
abbrev pub invariant-loop-coupon : goal.invariant-loop-coupon
invariant-loop-coupon g l = l.coupons.items ≡ l.fn.coupons.items ++ l.yielded
