-- SPDX-License-Identifier: Apache-2.0
use Rattle.std.proofs.Common.{[], ◌∷◌, refl, sym, ap, ◌∙◌}
use Rattle.std.proofs.lemmas.List.{append-nil}
use Rattle.hll_coupons.specs.Pair.{set_of}
use Rattle.hll_coupons.proofs.Yielded.{given}
use Rattle.hll_base.specs.declared.hll_type.HllType.TheVariants.{Hll8}
use Rattle.hll_registers.specs.Store.{Stored}
use Rattle.hll_sketch.specs.Adding.{add}
use Rattle.hll_sketch.specs.Laws.{add_in_turn}
use Rattle.hll_sketch.specs.Union.{sketch_of_registers}
use Rattle.hll_sketch.specs.Value.{Sketch}
use Rattle.hll_sketch.proofs.Keeping.{updated_as}
use Rattle.hll_sketch.proofs.Merges.{added_more}
use Rattle.hll_sketch.proofs.promotion.add_each_to.Goals as goal

pub loop-coupon-init : goal.loop-coupon-init
loop-coupon-init g c = (refl, refl)

pub loop-coupon-preserved : goal.loop-coupon-preserved
loop-coupon-preserved g c =
    let same = ap (λ (x : Stored). x.lg_k) c.update.ensures in (
      (λ i. let y : Sketch = record { lg_k = same i; width = Hll8; content = updated_as c.loop-coupon.array.lg_k c.loop-coupon.array c.update.new.self c.in-Some.coupon refl c.update.ensures i } in y)
          ∙ ap (λ x. add x (set_of (c.in-Some.coupon ∷ []))) c.loop-coupon.invariant.0
          ∙ sym (added_more (sketch_of_registers c.args.array.now) c.loop-coupon.yielded c.in-Some.coupon),
      same ∙ c.loop-coupon.invariant.1,
    )

pub returns-clause-added : goal.returns-clause-added
returns-clause-added g c =
    let all = given _ _ _ _ _ (c.into_iter-coupon-iterator.ensures.into_iter_gives ∙ c.iter-coupon-items.ensures) c.loop-coupon.yielded_by c.in-None.ensures.steps.0 in
    c.loop-coupon.invariant.0 ∙ ap (add_in_turn (sketch_of_registers c.args.array.now)) (sym (append-nil c.loop-coupon.yielded) ∙ sym all)
