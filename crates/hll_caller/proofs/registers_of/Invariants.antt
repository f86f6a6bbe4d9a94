-- SPDX-License-Identifier: Apache-2.0
use Rattle.std.proofs.Common.{◌≡◌, take}
use Rattle.hll_coupons.specs.Pair.{set_of}
use Rattle.hll_sketch.proofs.Promoting.{folded}
use Rattle.hll_caller.proofs.registers_of.Given as goal

-- the coupons so far are folded
abbrev pub invariant-loop-coupon : goal.invariant-loop-coupon
invariant-loop-coupon g l = l.array ≡ folded l.lg_k (set_of (take l.coupon-index l.coupons))
