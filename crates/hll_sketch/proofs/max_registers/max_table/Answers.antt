-- SPDX-License-Identifier: Apache-2.0
use Rattle.std.proofs.Common.{sym, ap, ◌∙◌}
use Rattle.std.proofs.lemmas.List.{append-nil}
use Rattle.hll_base.specs.Join.{join}
use Rattle.hll_coupons.specs.Fold.{fold_to}
use Rattle.hll_coupons.specs.Pair.{set_of}
use Rattle.hll_coupons.proofs.Yielded.{given}
use Rattle.hll_sketch.proofs.MaxBytes.{joined-nil, max_later}
use Rattle.hll_sketch.proofs.max_registers.max_table.Goals as goal

pub loop-coupon-init : goal.loop-coupon-init
loop-coupon-init g c = joined-nil c.args.registers.now c.args.lg_k c.requires.size

pub loop-coupon-preserved : goal.loop-coupon-preserved
loop-coupon-preserved g c =
    c.max_coupon.ensures ∙ max_later c.args.registers.now c.loop-coupon.registers c.loop-coupon.yielded c.in-Some.coupon c.args.lg_k c.loop-coupon.invariant

pub returns : goal.returns
returns g c =
    let all = given _ _ _ _ _ (c.into_iter-coupon-iterator.ensures.into_iter_gives ∙ c.iter-coupon-items.ensures) c.loop-coupon.yielded_by c.in-None.ensures.steps.0 in
    c.loop-coupon.invariant ∙ ap (λ cs. join c.args.registers.now (fold_to (set_of cs) c.args.lg_k)) (sym (append-nil c.loop-coupon.yielded) ∙ sym all)
