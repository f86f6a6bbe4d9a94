-- SPDX-License-Identifier: Apache-2.0
use Rattle.std.proofs.Common.{ℕ, ◌+◌, ◌<◌, ◌≤◌, get_or}
use Rattle.hll_coupons.proofs.distinct.ascend.Given as goal

-- each coupon so far is less than the next
abbrev pub invariant-loop-i : goal.invariant-loop-i
invariant-loop-i l = record {
  first : 1 ≤ l.i;
  below : (k : ℕ) → k + 1 < l.i → get_or l.coupons k 0 < get_or l.coupons (k + 1) 0;
}
