-- SPDX-License-Identifier: Apache-2.0
use Rattle.std.proofs.Common.{ℕ, List, [], ◌∷◌, refl, ap, ◌∙◌, arith}
use Rattle.hll_base.specs.Join.{join}
use Rattle.hll_coupons.specs.Fold.{fold_to}
use Rattle.hll_coupons.specs.Pair.{set_of}
use Rattle.hll_state.proofs.Promoting.{coupons_more, coupons_all}
use Rattle.hll_c.proofs.byte_registers.max_each.Goals as goal

pub loop-number-init : goal.loop-number-init
loop-number-init g c = refl

pub loop-number-preserved : goal.loop-number-preserved
loop-number-preserved g c =
    let k : ℕ = c.args.lg_k in
    let cs : List ℕ = g.C.Coupons.raw_coupons c.args.coupons.now in
    coupons_more k c.loop-number.registers c.max_coupon.new.registers cs c.loop-number.number _ (omega (arith, c.loop-number-test.true, c.count-number-end.ensures)) c.loop-number.invariant
    (c.max_coupon.ensures ∙ ap (λ n. join c.loop-number.registers (fold_to (set_of (n ∷ [])) k)) c.coupon.ensures)

pub returns : goal.returns
returns g c =
    coupons_all c.args.lg_k c.loop-number.registers (g.C.Coupons.raw_coupons c.args.coupons.now) c.loop-number.number _
    (omega (arith, c.loop-number-test.false, c.count-number-end.ensures)) (c.loop-number.auto.registers ∙ c.requires.lg_k.size) c.loop-number.invariant
