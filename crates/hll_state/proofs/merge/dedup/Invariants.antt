-- SPDX-License-Identifier: Apache-2.0
use Rattle.hll_state.specs.CouponRun.{raws}
use Rattle.hll_state.proofs.Distinct.{Once}
use Rattle.hll_state.proofs.merge.dedup.Given as goal

-- the coupons before the i-th one are in the first elements, each once
abbrev pub invariant-loop-i : goal.invariant-loop-i
invariant-loop-i l = Once (raws l.fn.coupons) (raws l.coupons) l.last l.i
