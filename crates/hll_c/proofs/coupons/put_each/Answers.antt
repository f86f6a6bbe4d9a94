-- SPDX-License-Identifier: Apache-2.0
use Rattle.std.proofs.Common.{◌∙◌, arith}
use Rattle.hll_c.proofs.CouponsInTurn.{puts_none, puts_next, puts_all}
use Rattle.hll_c.proofs.coupons.put_each.Goals as goal

pub loop-number-init : goal.loop-number-init
loop-number-init g c = puts_none c.args.out.now (g.C.Coupons.raw_coupons c.args.coupons.now) c.args.first

pub loop-number-preserved : goal.loop-number-preserved
loop-number-preserved g c =
    puts_next c.args.out.now c.loop-number.out (g.C.Coupons.raw_coupons c.args.coupons.now) c.args.first c.loop-number.number c.raw.result
    (omega (arith, c.loop-number-test.true, c.loop-number.invariant.size)) (omega (arith, c.requires.within, c.loop-number-test.true)) (c.raw.ensures ∙ c.coupon.ensures) c.loop-number.invariant

pub returns : goal.returns
returns g c =
    puts_all c.args.out.now c.loop-number.out (g.C.Coupons.raw_coupons c.args.coupons.now) c.args.first c.loop-number.number
    (omega (arith, c.loop-number-test.false, c.loop-number.invariant.size)) (omega (arith, c.loop-number.auto.number-end)) c.loop-number.invariant
