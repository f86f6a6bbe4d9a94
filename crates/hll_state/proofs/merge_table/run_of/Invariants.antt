-- SPDX-License-Identifier: Apache-2.0
use Rattle.std.proofs.Common.{◌≡◌, ◌≤◌, length}
use Rattle.hll_coupons.specs.Pair.{set_of}
use Rattle.hll_state.specs.CouponRun.{IsRun, members}
use Rattle.hll_state.proofs.merge_table.run_of.Given as goal

-- the coupons so far are in the run
abbrev pub invariant-loop-coupon : goal.invariant-loop-coupon
invariant-loop-coupon g l = record {
  run : IsRun l.run l.body;
  members : members l.run l.body ≡ set_of l.yielded;
  used : l.run.used ≤ length l.yielded;
  long : length l.body ≡ length l.fn.body;
}
