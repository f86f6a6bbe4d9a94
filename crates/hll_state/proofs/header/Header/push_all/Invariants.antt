-- SPDX-License-Identifier: Apache-2.0
use Rattle.std.proofs.Common.{◌≡◌, ℕ, ◌+◌, ◌-◌, length, drop}
use Rattle.hll_sketch.specs.Laws.{add_in_turn}
use Rattle.hll_state.specs.Counter.{sketch_in}
use Rattle.hll_state.specs.CouponRun.{raws}
use Rattle.hll_state.specs.Header.{IsWithin, HasRoom}
use Rattle.hll_state.proofs.header.Header.push_all.Given as goal

-- adding the coupons that are left to the sketch so far gives what adding all gives to the sketch before; and there is room for
-- them
abbrev pub invariant-loop-coupon : goal.invariant-loop-coupon
invariant-loop-coupon l = record {
  within : IsWithin l.self (length l.body);
  added : add_in_turn (sketch_in l.self l.body) (drop l.coupon-index (raws l.coupons)) ≡ add_in_turn (sketch_in l.fn.self l.fn.body) (raws l.coupons);
  widths : l.self.widths ≡ l.fn.self.widths;
  room : HasRoom l.self (length l.coupons - l.coupon-index) (length l.body);
  takes : (n room : ℕ) → HasRoom l.fn.self (n + l.coupon-index) room → HasRoom l.self n room;
}
