-- SPDX-License-Identifier: Apache-2.0
use Rattle.std.proofs.Common.{arith}
use Rattle.hll_c.proofs.CouponsInTurn.{values_further, values_broken, values_end}
use Rattle.hll_c.proofs.coupons.have_values.Goals as goal

pub loop-raw-init : goal.loop-raw-init
loop-raw-init c = (λ all. all, λ all. all)

pub loop-raw-preserved : goal.loop-raw-preserved
loop-raw-preserved c = values_further c.args.raw_coupons.now c.loop-raw.raw-index c.loop-raw-test.true (omega (arith, c.if-raw.false)) c.loop-raw.invariant

pub returns-then-raw : goal.returns-then-raw
returns-then-raw c = values_broken c.args.raw_coupons.now c.loop-raw.raw-index c.loop-raw-test.true (omega (arith, c.if-raw.true)) c.loop-raw.invariant

pub returns : goal.returns
returns c = values_end c.args.raw_coupons.now c.loop-raw.raw-index c.loop-raw-test.false c.loop-raw.invariant
