-- SPDX-License-Identifier: Apache-2.0
use Rattle.std.proofs.Common.{◌≡◌, ◌++◌, take}
use Rattle.hll_coupons.specs.Coupons.{coupon_bytes}
use Rattle.hll_coupons.proofs.container.with_coupons.Given as goal

-- the bytes of the coupons so far are appended
abbrev pub invariant-loop-coupon : goal.invariant-loop-coupon
invariant-loop-coupon g l = l.bytes ≡ l.initial.bytes ++ coupon_bytes (take l.coupon-index l.coupons)
