-- SPDX-License-Identifier: Apache-2.0
use Rattle.hll_state.specs.CouponRun.{IsRun}
use Rattle.hll_state_tests.proofs.runs.push_all.Given as goal

-- the elements hold a run after each push
abbrev pub invariant-loop-index : goal.invariant-loop-index
invariant-loop-index l = IsRun l.run l.coupons
