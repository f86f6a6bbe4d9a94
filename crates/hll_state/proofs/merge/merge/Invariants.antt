-- SPDX-License-Identifier: Apache-2.0
use Rattle.std.proofs.Common.{◌+◌, ◌-◌, ◌≤◌, length, take, drop}
use Rattle.hll_coupons.proofs.Merging.{MergesRest}
use Rattle.hll_state.specs.CouponRun.{raws}
use Rattle.hll_state.proofs.merge.merge.Given as goal

-- the merged coupons are in the first elements, and what is left of both lists comes after them
abbrev pub invariant-loop-from : goal.invariant-loop-from
invariant-loop-from l = record {
  room : l.kept + length l.others ≤ l.from + l.next;
  left_within : l.from ≤ length l.coupons;
  right_within : l.next ≤ length l.others;
  rest : MergesRest (take l.len (raws l.fn.coupons)) (raws l.others) (take l.kept (raws l.coupons)) (drop l.from (raws l.coupons)) (drop l.next (raws l.others));
}

abbrev pub decreases-loop-from : goal.decreases-loop-from
decreases-loop-from l = (length l.coupons - l.from) + (length l.others - l.next)
