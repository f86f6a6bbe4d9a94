-- SPDX-License-Identifier: Apache-2.0
use Rattle.std.proofs.Common.{get_or, ap, subst}
use Rattle.std.proofs.lemmas.Option.{IfSome_then}
use Rattle.hll_base.specs.declared.hll_type.HllType.TheVariants.{Hll4}
use Rattle.hll_sketch.specs.Image.{width_of_bits}
use Rattle.hll_images.specs.RegisterImages.{IsFilledImageWith}
use Rattle.hll_images.proofs.RegisterImages.{held_image, raised_image, single}
use Rattle.hll_images.proofs.register_images.four_bits_with.Goals as goal

pub returns-then-hold_all : goal.returns-then-hold_all
returns-then-hold_all g c =
    IfSome_then c.image_parts.result c.image_parts.ensures λ image written.
    held_image c.args.bytes.now image c.args.raw_coupons.now Hll4 c.in-Ok.source c.filled_state.result c.in-Ok.ensures.ok (ap width_of_bits c.requires.width) c.filled_state.ensures written
    (c.hold_all.ensures.held c.if-hold_all.true)

pub returns-in-Some : goal.returns-in-Some
returns-in-Some g c =
    let B = c.args.bytes.now in
    let cs = c.args.raw_coupons.now in
    IfSome_then c.raised_parts.result c.raised_parts.ensures λ image raised.
    subst (λ added. IsFilledImageWith added B image) (single cs c.in-len1.len_at_least c.in-len1.len_below)
    (raised_image B image (get_or cs 0 0) Hll4 c.in-Ok.source _ raised.0 c.in-Ok.ensures.ok (ap width_of_bits c.requires.width) raised.1 raised.2 c.in-Some.ensures.some)
