-- SPDX-License-Identifier: Apache-2.0
use Rattle.std.proofs.Common.{subst}
use Rattle.std.specs.Option.{IfSome}
use Rattle.std.proofs.lemmas.Result.{IfOk-weaker, IfErr-weaker}
use Rattle.hll_base.proofs.Errors.{IfErr-passed}
use Rattle.hll_images.specs.CouponImages.{IsImageAt}
use Rattle.hll_sketch.specs.EstimatorFields.{SetsFields}
use Rattle.hll_sketch.specs.Layout.{sketch_of}
use Rattle.hll_sketch.proofs.SetFields.{coupons_stay, coupons_are_set}
use Rattle.hll_c.specs.Answers.{IsImageOf, WithFields, RefusesImage}
use Rattle.hll_c.specs.Calls.{IsMadeOf}
use Rattle.hll_c.proofs.Answers.{made_with_fields}
use Rattle.hll_c.proofs.Images.{refuses_image, refuses_memory}
use Rattle.hll_c.proofs.Widths.{own_image}
use Rattle.hll_c.proofs.image.with_estimator_fields.Goals as goal

pub returns-in_err-written-clause-err : goal.returns-in_err-written-clause-err
returns-in_err-written-clause-err c =
    let e = c.in_err-written in
    IfErr-passed (RefusesImage c.args.image.now) c.from_residual.result e.field-0.0 c.from_residual.ensures.1 (refuses_memory c.args.image.now e.ensures.read.0 e.field-0.0 e.ensures.read.1 e.ensures.err)

pub returns-in-Some-clause-ok : goal.returns-in-Some-clause-ok
returns-in-Some-clause-ok c =
    let width = c.width_in_header.result in
    let own = own_image width c.args.image.now c.in-Some.written.items c.width_in_header.ensures
    (subst (λ o. IfSome o (λ written. IsImageAt width c.args.image.now written.items)) c.in-Some.is c.in_ok-written.ensures.some) in
    (own.0, (own.0, record { sketch = own.0; read = own.1; is_made = coupons_are_set own.0 own.2 }, coupons_stay own.0 own.2), own.3)

pub returns-in_err-sketch-clause-err : goal.returns-in_err-sketch-clause-err
returns-in_err-sketch-clause-err c =
    let e = c.in_err-sketch in
    IfErr-passed (RefusesImage c.args.image.now) c.from_residual-in_err-sketch.result e.field-0.0 c.from_residual-in_err-sketch.ensures.1
    (refuses_image c.args.image.now e.field-0.0 e.ensures.order e.ensures.asked)

pub returns-clause-ok : goal.returns-clause-ok
returns-clause-ok c =
    let Made = IsMadeOf c.args.image.now SetsFields in
    let y = sketch_of c.set_estimator_fields.new.self in
    IfOk-weaker c.image_with_fields.result _ (λ v. IsImageOf (WithFields Made) v.items)
    (λ v is. made_with_fields Made y v.items (record { sketch = sketch_of c.in_ok-sketch.sketch; read = c.in_ok-sketch.ensures.ok; is_made = c.set_estimator_fields.ensures.fields }) is)
    c.image_with_fields.ensures.ok

pub returns-clause-err : goal.returns-clause-err
returns-clause-err c =
    IfErr-weaker c.image_with_fields.result _ (RefusesImage c.args.image.now)
    (λ e memory. refuses_memory c.args.image.now (sketch_of c.in_ok-sketch.sketch) e c.in_ok-sketch.ensures.ok memory)
    c.image_with_fields.ensures.err
