-- SPDX-License-Identifier: Apache-2.0
use Rattle.hll_c.proofs.CouponsInTurn.{PutsInTurn}
use Rattle.hll_c.proofs.coupons.put_each.Given as goal

-- the coupons so far were written
abbrev pub invariant-loop-number : goal.invariant-loop-number
invariant-loop-number g l = PutsInTurn l.fn.out l.out (g.C.Coupons.raw_coupons l.coupons) l.first l.number
