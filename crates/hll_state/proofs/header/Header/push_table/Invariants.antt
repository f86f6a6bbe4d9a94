-- SPDX-License-Identifier: Apache-2.0
use Rattle.std.proofs.Common.{◌≡◌, ℕ, ◌+◌, length}
use Rattle.hll_coupons.specs.Table.{coupons_in}
use Rattle.hll_sketch.specs.Laws.{add_in_turn}
use Rattle.hll_state.specs.Counter.{sketch_in}
use Rattle.hll_state.specs.Header.{IsWithin, HasRoom}
use Rattle.hll_state.proofs.header.Header.push_table.Given as goal

-- the coupons so far were added, and there is room for those that are left
abbrev pub invariant-loop-coupon : goal.invariant-loop-coupon
invariant-loop-coupon g l = record {
  within : IsWithin l.self (length l.body);
  added : sketch_in l.self l.body ≡ add_in_turn (sketch_in l.fn.self l.fn.body) l.yielded;
  widths : l.self.widths ≡ l.fn.self.widths;
  takes : (n room : ℕ) → HasRoom l.fn.self (n + length l.yielded) room → HasRoom l.self n room;
  room : (n : ℕ) → length l.yielded + n ≡ length (coupons_in l.table.buckets) → HasRoom l.self n (length l.body);
}
