-- SPDX-License-Identifier: Apache-2.0
use Rattle.std.proofs.Common.{◌≡◌, subst}
use Rattle.std.specs.Option.{IfSome}
use Rattle.hll_base.specs.declared.error.Reason.TheVariants.{Memory}
use Rattle.hll_base.proofs.Errors.{IfErr-passed}
use Rattle.hll_images.specs.CouponImages.{IsImageAt}
use Rattle.hll_sketch.specs.Layout.{sketch_of}
use Rattle.hll_images.specs.RegisterImages.{IsFilledImageOf, IsPlainImage}
use Rattle.hll_c.specs.Answers.{RefusesWith, image_refused, image_fault}
use Rattle.hll_c.specs.Calls.{AsksWidth, AsksOwnWidth, IsAskedWidth, IsMadeOf, IsAtWidth}
use Rattle.hll_c.proofs.Answers.{made_with_fields}
use Rattle.hll_c.proofs.Images.{refuses_argument, refuses_memory}
use Rattle.hll_c.proofs.Widths.{asks, made_at_width, image_in_bytes, registers_in_bytes, in_place}
use Rattle.hll_c.proofs.image.converted.Goals as goal

pub returns-in_err-hll_type-clause-err : goal.returns-in_err-hll_type-clause-err
returns-in_err-hll_type-clause-err c =
    let e = c.in_err-hll_type in
    IfErr-passed (RefusesWith (AsksWidth c.args.width) c.args.image.now) c.from_residual.result e.field-0.0 c.from_residual.ensures.1
    (refuses_argument (AsksWidth c.args.width) c.args.image.now e.field-0.0 e.ensures.outside.0 e.ensures.outside.1)

pub returns-in_err-written-clause-err : goal.returns-in_err-written-clause-err
returns-in_err-written-clause-err c =
    let e = c.in_err-written in
    IfErr-passed (RefusesWith (AsksWidth c.args.width) c.args.image.now) c.from_residual-in_err-written.result e.field-0.0 c.from_residual-in_err-written.ensures.1
    (image_refused (asks c.in_ok-hll_type.ensures.ok) (refuses_memory c.args.image.now e.ensures.read.0 e.field-0.0 e.ensures.read.1 e.ensures.err))

pub returns-in-Some-clause-ok : goal.returns-in-Some-clause-ok
returns-in-Some-clause-ok c =
    let asked = subst (λ own. IsAskedWidth c.args.width own c.in_ok-hll_type.hll_type) c.width_in_header.ensures c.in_ok-hll_type.ensures.ok in
    image_in_bytes c.args.width c.in_ok-hll_type.hll_type c.args.image.now asked c.in-Some.written.items
    (subst (λ o. IfSome o (λ written. IsImageAt c.in_ok-hll_type.hll_type c.args.image.now written.items)) c.in-Some.is c.in_ok-written.ensures.some)

pub returns-in_err-parts-clause-err : goal.returns-in_err-parts-clause-err
returns-in_err-parts-clause-err c =
    let e = c.in_err-parts in
    IfErr-passed (RefusesWith (AsksWidth c.args.width) c.args.image.now) c.from_residual-in_err-parts.result e.field-0.0 c.from_residual-in_err-parts.ensures.1
    (image_refused (asks c.in_ok-hll_type.ensures.ok) (image_fault e.ensures.err))

pub returns-in-Some-2-clause-ok : goal.returns-in-Some-2-clause-ok
returns-in-Some-2-clause-ok c =
    let asked = subst (λ own. IsAskedWidth c.args.width own c.in_ok-hll_type.hll_type) c.width_in_header.ensures c.in_ok-hll_type.ensures.ok in
    registers_in_bytes c.args.width c.in_ok-hll_type.hll_type c.args.image.now asked c.in-Some-2.parts
    (subst (λ o. IfSome o (λ parts. IsFilledImageOf c.in_ok-hll_type.hll_type c.args.image.now parts)) c.in-Some-2.is c.in_ok-parts.ensures.some)

pub returns-in_err-sketch-clause-err : goal.returns-in_err-sketch-clause-err
returns-in_err-sketch-clause-err c =
    let e = c.in_err-sketch in
    IfErr-passed (RefusesWith (AsksWidth c.args.width) c.args.image.now) c.from_residual-in_err-sketch.result e.field-0.0 c.from_residual-in_err-sketch.ensures.1
    (image_refused (asks c.in_ok-hll_type.ensures.ok) e.ensures.err)

pub returns-in_err-image_with_fields-clause-err : goal.returns-in_err-image_with_fields-clause-err
returns-in_err-image_with_fields-clause-err c =
    let e = c.in_err-image_with_fields in
    let made = c.in_ok-sketch.ensures.ok in
    IfErr-passed (RefusesWith (AsksWidth c.args.width) c.args.image.now) c.from_residual-in_err-image_with_fields.result e.field-0.0 c.from_residual-in_err-image_with_fields.ensures.1
    (image_refused (asks c.in_ok-hll_type.ensures.ok) (refuses_memory c.args.image.now made.sketch e.field-0.0 made.read e.ensures.err))

pub returns-clause-ok : goal.returns-clause-ok
returns-clause-ok c =
    let asked = subst (λ own. IsAskedWidth c.args.width own c.in_ok-hll_type.hll_type) c.width_in_header.ensures c.in_ok-hll_type.ensures.ok in
    let Made = IsMadeOf c.args.image.now (IsAtWidth c.args.width) in
    let y = sketch_of c.in_ok-sketch.sketch in
    let image = c.in_ok-image_with_fields in
    made_with_fields Made y image.field-0.items (made_at_width c.args.width c.in_ok-hll_type.hll_type c.args.image.now asked y c.in_ok-sketch.ensures.ok) image.ensures.ok

pub returns-in_err-sketch-clause-memory : goal.returns-in_err-sketch-clause-memory
returns-in_err-sketch-clause-memory c =
    let asked = subst (λ own. IsAskedWidth c.args.width own c.in_ok-hll_type.hll_type) c.width_in_header.ensures c.in_ok-hll_type.ensures.ok in
    IfErr-passed (λ e. e ≡ Memory → IsPlainImage c.args.image.now → AsksOwnWidth c.args.width c.args.image.now → ⊥) c.from_residual-in_err-sketch.result c.in_err-sketch.field-0.0
    c.from_residual-in_err-sketch.ensures.1 (λ memory. in_place c.args.width c.args.image.now c.in_ok-hll_type.hll_type c.in_ok-parts.field-0 asked c.in_default-2.is c.in_ok-parts.ensures.none)

pub returns-in_err-image_with_fields-clause-memory : goal.returns-in_err-image_with_fields-clause-memory
returns-in_err-image_with_fields-clause-memory c =
    let asked = subst (λ own. IsAskedWidth c.args.width own c.in_ok-hll_type.hll_type) c.width_in_header.ensures c.in_ok-hll_type.ensures.ok in
    IfErr-passed (λ e. e ≡ Memory → IsPlainImage c.args.image.now → AsksOwnWidth c.args.width c.args.image.now → ⊥) c.from_residual-in_err-image_with_fields.result
    c.in_err-image_with_fields.field-0.0 c.from_residual-in_err-image_with_fields.ensures.1
    (λ memory. in_place c.args.width c.args.image.now c.in_ok-hll_type.hll_type c.in_ok-parts.field-0 asked c.in_default-2.is c.in_ok-parts.ensures.none)
