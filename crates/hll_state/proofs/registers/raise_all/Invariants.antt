-- SPDX-License-Identifier: Apache-2.0
use Rattle.std.proofs.Common.{◌≡◌, ◌^◌, length, drop}
use Rattle.hll_base.specs.Join.{join}
use Rattle.hll_coupons.specs.Fold.{fold_to}
use Rattle.hll_coupons.specs.Pair.{set_of}
use Rattle.hll_kernels.specs.Packed.{AreRegisters}
use Rattle.hll_state.specs.CouponRun.{raws}
use Rattle.hll_state.specs.Registers.{values}
use Rattle.hll_state.proofs.registers.raise_all.Given as goal

-- adding the coupons that are left to the registers so far gives what adding all gives to the registers before; and registers
-- remain registers
abbrev pub invariant-loop-coupon : goal.invariant-loop-coupon
invariant-loop-coupon l = (length (values l.elements) ≡ 2 ^ l.fn.lg_k)
    × (join (values l.elements) (fold_to (set_of (drop l.coupon-index (raws l.coupons))) l.fn.lg_k) ≡ join (values l.fn.elements) (fold_to (set_of (raws l.coupons)) l.fn.lg_k))
    × (AreRegisters l.fn.lg_k (values l.fn.elements) → AreRegisters l.fn.lg_k (values l.elements))
