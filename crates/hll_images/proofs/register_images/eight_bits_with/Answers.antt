-- SPDX-License-Identifier: Apache-2.0
use Rattle.std.proofs.Common.{◌≡◌, [], ◌∷◌, get_or, sym, ap, subst, arith}
use Rattle.std.specs.Prelude.{fold}
use Rattle.hll_base.specs.declared.hll_type.HllType.TheVariants.{Hll8}
use Rattle.hll_registers.specs.Store.{update_with_coupon}
use Rattle.hll_sketch.specs.Image.{width_of_bits}
use Rattle.hll_images.specs.RegisterImages.{IsFilledImageWith}
use Rattle.hll_images.proofs.RegisterImages.{held_image, raised_image, single}
use Rattle.hll_images.proofs.register_images.eight_bits_with.Goals.{in-Some, in-None}
use Rattle.hll_images.proofs.register_images.eight_bits_with.Goals as goal

pub returns-then-raw_coupons-eq1-clause-some : goal.returns-then-raw_coupons-eq1-clause-some
returns-then-raw_coupons-eq1-clause-some c =
    let B = c.args.bytes.now in
    let cs = c.args.raw_coupons.now in
    let one : get_or cs 0 0 ∷ [] ≡ cs = single cs (omega (arith, c.if-raw_coupons-eq1.true)) (omega (arith, c.if-raw_coupons-eq1.true)) in
    let x = c.in-Ok.source in
    let width = ap width_of_bits c.requires.width in
    elim c.match-raised_slot.branch [
      | in-Some w ↦
          let raised = w.raised_parts.ensures in
          subst (IsFilledImageWith cs B) (sym w.result-is) (subst (λ added. IsFilledImageWith added B w.raised_parts.result) one
          (raised_image B w.raised_parts.result (get_or cs 0 0) Hll8 x _ raised.0 c.in-Ok.ensures.ok width raised.1 raised.2 w.in-Some.ensures.some))
      | in-None w ↦
          subst (IsFilledImageWith cs B) (sym w.result-is) (held_image B w.image_parts.result cs Hll8 x w.filled_state.result c.in-Ok.ensures.ok width w.filled_state.ensures
          w.image_parts.ensures (subst (λ added. fold update_with_coupon x added ≡ x) one w.in-None.ensures.none))
    ]

pub returns-then-hold_all-clause-some : goal.returns-then-hold_all-clause-some
returns-then-hold_all-clause-some c =
    held_image c.args.bytes.now c.image_parts-then-hold_all.result c.args.raw_coupons.now Hll8 c.in-Ok.source c.filled_state-then-hold_all.result c.in-Ok.ensures.ok (ap width_of_bits c.requires.width)
    c.filled_state-then-hold_all.ensures c.image_parts-then-hold_all.ensures (c.hold_all.ensures.held c.if-hold_all.true)
