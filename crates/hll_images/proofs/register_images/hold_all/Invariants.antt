-- SPDX-License-Identifier: Apache-2.0
use Rattle.std.proofs.Common.{◌≡◌, take}
use Rattle.std.specs.Prelude.{fold}
use Rattle.hll_registers.specs.Store.{update_with_coupon}
use Rattle.hll_images.proofs.register_images.hold_all.Given as goal

-- the coupons before this one are held
abbrev pub invariant-loop-raw_coupon : goal.invariant-loop-raw_coupon
invariant-loop-raw_coupon g l = let x = g.R.Registers.stored l.source in fold update_with_coupon x (take l.raw_coupon-index l.raw_coupons) ≡ x
