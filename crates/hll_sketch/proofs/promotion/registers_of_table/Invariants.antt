-- SPDX-License-Identifier: Apache-2.0
use Rattle.std.proofs.Common.{◌≡◌}
use Rattle.hll_coupons.specs.Pair.{set_of}
use Rattle.hll_sketch.proofs.Promoting.{folded}
use Rattle.hll_sketch.proofs.promotion.registers_of_table.Given as goal

-- the registers of the coupons so far
abbrev pub invariant-loop-coupon : goal.invariant-loop-coupon
invariant-loop-coupon g l = g.S.Registers.stored l.registers ≡ folded l.fn.lg_k (set_of l.yielded)
