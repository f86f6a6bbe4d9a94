-- SPDX-License-Identifier: Apache-2.0
use Rattle.hll_c.proofs.States.{AddsLeft}
use Rattle.hll_c.proofs.state.push_each.Given as goal

-- the coupons so far were added, and there is room for those that are left
abbrev pub invariant-loop-number : goal.invariant-loop-number
invariant-loop-number g l = AddsLeft l.fn.header l.fn.body l.header l.body (g.C.Coupons.raw_coupons l.coupons) l.number
