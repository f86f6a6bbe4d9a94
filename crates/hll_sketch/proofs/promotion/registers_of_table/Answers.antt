-- SPDX-License-Identifier: Apache-2.0
use Rattle.std.proofs.Common.{◌≡◌, sym, ap, ◌∙◌}
use Rattle.std.proofs.lemmas.List.{append-nil}
use Rattle.hll_coupons.specs.Pair.{set_of}
use Rattle.hll_coupons.specs.Table.{coupons_in, coupons_of}
use Rattle.hll_coupons.proofs.Yielded.{given}
use Rattle.hll_registers.specs.Store.{update_with_coupon}
use Rattle.hll_sketch.proofs.Promoting.{folded, folded-none, folded-after, folded-with_one, folded-with_none}
use Rattle.hll_sketch.proofs.promotion.registers_of_table.Goals as goal
use Rattle.hll_sketch.proofs.promotion.registers_of_table.Goals.{in-Some-more+in_ok-put_coupon-2, in_default}

pub loop-coupon-init : goal.loop-coupon-init
loop-coupon-init g c = c.in_ok-registers.ensures.ok ∙ folded-none c.args.lg_k

pub loop-coupon-preserved : goal.loop-coupon-preserved
loop-coupon-preserved g c =
    c.in_ok-put_coupon.ensures.ok ∙ ap (λ a. update_with_coupon a c.in-Some.coupon) c.loop-coupon.invariant ∙ folded-after c.args.lg_k c.loop-coupon.yielded c.in-Some.coupon

pub returns-clause-ok : goal.returns-clause-ok
returns-clause-ok g c =
    let all = given _ _ _ _ _ (c.into_iter-coupon-iterator.ensures.into_iter_gives ∙ c.iter-coupon-items.ensures) c.loop-coupon.yielded_by c.in-None.ensures.steps.0 in
    let held_all : c.loop-coupon.yielded ≡ coupons_in c.args.table.now.buckets = sym (append-nil c.loop-coupon.yielded) ∙ sym all in
    let held : g.S.Registers.stored c.loop-coupon.registers ≡ folded c.args.lg_k (coupons_of c.args.table.now) = c.loop-coupon.invariant ∙ ap (λ order. folded c.args.lg_k (set_of order)) held_all in
    elim c.match-more.branch [
      | in-Some-more+in_ok-put_coupon-2 w ↦
          rw w.registers-is (folded-with_one c.args.lg_k (coupons_of c.args.table.now) w.in-Some-more.one c.args.more _ _ w.in-Some-more.is held w.in_ok-put_coupon-2.ensures.ok)
      | in_default w ↦ rw w.registers-is (folded-with_none c.args.lg_k (coupons_of c.args.table.now) c.args.more _ w.in_default.is held)
    ]
