-- SPDX-License-Identifier: Apache-2.0
use Rattle.std.proofs.Common.{◌≡◌}
use Rattle.hll_coupons.proofs.container.Container.copied.Given as goal

-- the coupons so far are copied
abbrev pub invariant-loop-coupon : goal.invariant-loop-coupon
invariant-loop-coupon g l = l.coupons.items ≡ l.yielded
