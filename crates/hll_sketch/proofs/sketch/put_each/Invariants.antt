-- SPDX-License-Identifier: Apache-2.0
use Rattle.std.proofs.Common.{◌≡◌, take, fold}
use Rattle.hll_registers.specs.Store.{update_with_coupon}
use Rattle.hll_sketch.proofs.sketch.put_each.Given as goal

-- the coupons so far are added
abbrev pub invariant-loop-raw_coupon : goal.invariant-loop-raw_coupon
invariant-loop-raw_coupon g l = record {
  put : g.S.Registers.stored l.store ≡ fold update_with_coupon (g.S.Registers.stored l.initial.store) (take l.raw_coupon-index l.raw_coupons);
  lg_k : (g.S.Registers.stored l.store).lg_k ≡ (g.S.Registers.stored l.initial.store).lg_k;
}
