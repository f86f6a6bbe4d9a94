-- SPDX-License-Identifier: Apache-2.0
use Rattle.std.proofs.Common.{refl, sym, ap, subst, ◌∙◌}
use Rattle.hll_base.specs.Reason.{number_of}
use Rattle.hll_sketch.specs.BorrowedImage.{sketch_of_borrowed, sketch_of_coupons}
use Rattle.hll_sketch.specs.Value.{Sketch}
use Rattle.hll_state.specs.Merged.{bit_of}
use Rattle.hll_c.specs.Answers.{argument_with_image, image_refused}
use Rattle.hll_c.specs.States.{JoinsUnder, JoinsImage, image_read, image_not_read}
use Rattle.hll_c.proofs.Images.{refuses_image}
use Rattle.hll_c.proofs.States.{no_memory}
use Rattle.hll_c.proofs.join.join_image.Goals as goal

pub returns-in_default : goal.returns-in_default
returns-in_default c =
    subst (JoinsImage c.args.lg_max_k c.args.image.now c.args.state.now c.args.state.now c.args.size.now c.args.size.now) (sym c.number.ensures)
    (image_not_read (argument_with_image c.in_default.ensures.none) (λ same. absurd (no_memory same)) refl refl)

pub returns-in-Some-compact_image : goal.returns-in-Some-compact_image
returns-in-Some-compact_image c =
    let y : Sketch = sketch_of_coupons c.in-Some-compact_image.coupons in
    image_read y c.in-Some-compact_image.ensures.some
    (subst (λ widths. JoinsUnder c.args.lg_max_k widths y c.args.state.now c.join.new.state c.args.size.now c.join.new.size c.join.result) c.bit_of-widths.ensures.is c.join.ensures)

pub returns-in-Ok : goal.returns-in-Ok
returns-in-Ok c =
    let y : Sketch = sketch_of_borrowed c.in-Ok.image in
    let done = c.join-in-Ok in
    image_read y c.in-Ok.ensures.ok
    (subst (λ widths. JoinsUnder c.args.lg_max_k widths y c.args.state.now done.new.state c.args.size.now done.new.size done.result) (c.bit_of-widths-in-Ok.ensures.is ∙ ap bit_of c.hll_type.ensures) done.ensures)

pub returns-in-Err : goal.returns-in-Err
returns-in-Err c =
    let says = c.in-Err.ensures in
    subst (JoinsImage c.args.lg_max_k c.args.image.now c.args.state.now c.args.state.now c.args.size.now c.args.size.now) (sym (c.number-in-Err.ensures ∙ ap number_of c.reason.ensures))
    (image_not_read (image_refused (record { header = c.in-Some.header; has = c.in-Some.ensures.some.0; bound = c.in-Some.ensures.some.1 }) (refuses_image c.args.image.now c.in-Err.e says.err.first says.err.asked)) says.needed refl refl)
