-- SPDX-License-Identifier: Apache-2.0
use Rattle.std.proofs.Common.{◌≡◌}
use Rattle.hll_images.proofs.image_coupons.coupons_of_table.Given as goal

-- the coupons so far were copied
abbrev pub invariant-loop-coupon : goal.invariant-loop-coupon
invariant-loop-coupon g l = l.copy.items ≡ l.yielded
