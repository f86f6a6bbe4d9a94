-- SPDX-License-Identifier: Apache-2.0
use Rattle.std.proofs.Common.{map, sym, subst}
use Rattle.std.specs.Option.{IfSome}
use Rattle.hll_base.proofs.Errors.{IfErr-passed}
use Rattle.hll_coupons.specs.Hashed.{coupon_of_bytes}
use Rattle.hll_images.specs.CouponImages.{IsImageWith}
use Rattle.hll_sketch.specs.Layout.{sketch_of}
use Rattle.hll_images.specs.RegisterImages.{IsFilledImageWith}
use Rattle.hll_c.specs.Answers.{RefusesWith, image_refused}
use Rattle.hll_c.specs.Calls.{IsMadeOf, HasValues}
use Rattle.hll_c.proofs.Answers.{made_with_fields, not_so}
use Rattle.hll_c.proofs.Images.{refuses_argument, refuses_memory, no_memory_with, values_in_bytes, values_in_registers}
use Rattle.hll_c.proofs.image.with_values.Goals as goal

pub returns-then-not-are_delimited-clause-err : goal.returns-then-not-are_delimited-clause-err
returns-then-not-are_delimited-clause-err g c =
    let Are = g.S.Strings.are c.args.values.now in
    refuses_argument Are c.args.image.now c.new.result c.new.ensures (not_so c.are_delimited.result Are c.if-not-are_delimited.true c.are_delimited.ensures)

pub returns-in_err-written-clause-err : goal.returns-in_err-written-clause-err
returns-in_err-written-clause-err g c =
    let e = c.in_err-written in
    IfErr-passed (RefusesWith (g.S.Strings.are c.args.values.now) c.args.image.now) c.from_residual.result e.field-0.0 c.from_residual.ensures.1
    (image_refused (c.are_delimited.ensures.0 c.if-not-are_delimited.false) (refuses_memory c.args.image.now e.ensures.read.0 e.field-0.0 e.ensures.read.1 e.ensures.err))

pub returns-in-Some-clause-ok : goal.returns-in-Some-clause-ok
returns-in-Some-clause-ok g c =
    values_in_bytes (g.S.Strings.are c.args.values.now) (g.S.Strings.strings c.args.values.now) c.args.image.now c.in-Some.written.items (c.are_delimited.ensures.0 c.if-not-are_delimited.false)
    (subst (λ o. IfSome o (λ written. IsImageWith (map coupon_of_bytes (g.S.Strings.strings c.args.values.now)) c.args.image.now written.items)) c.in-Some.is c.in_ok-written.ensures.some)

pub returns-in-Some-register_image_with_values-clause-ok : goal.returns-in-Some-register_image_with_values-clause-ok
returns-in-Some-register_image_with_values-clause-ok g c =
    let found = c.in-Some-register_image_with_values in
    values_in_registers (g.S.Strings.are c.args.values.now) (g.S.Strings.strings c.args.values.now) c.args.image.now found.parts (c.are_delimited.ensures.0 c.if-not-are_delimited.false)
    (subst (λ o. IfSome o (λ parts. IsFilledImageWith (map coupon_of_bytes (g.S.Strings.strings c.args.values.now)) c.args.image.now parts)) found.is c.register_image_with_values.ensures.some)

pub returns-in_err-image_with_fields-clause-err : goal.returns-in_err-image_with_fields-clause-err
returns-in_err-image_with_fields-clause-err g c =
    let e = c.in_err-image_with_fields in
    let Are = g.S.Strings.are c.args.values.now in
    let Refuses = RefusesWith Are c.args.image.now in
    let sketch = c.in_ok-sketch in
    IfErr-passed Refuses c.from_residual-in_err-image_with_fields.result e.field-0.0 c.from_residual-in_err-image_with_fields.ensures.1
    (subst Refuses (sym e.ensures.err) (no_memory_with c.args.image.now (HasValues (g.S.Strings.are c.args.values.now) (g.S.Strings.strings c.args.values.now)) (sketch_of sketch.sketch) sketch.ensures.ok Are (λ x z is. is.are)))

pub returns-clause-ok : goal.returns-clause-ok
returns-clause-ok g c =
    let Made = IsMadeOf c.args.image.now (HasValues (g.S.Strings.are c.args.values.now) (g.S.Strings.strings c.args.values.now)) in
    let sketch = c.in_ok-sketch in
    let image = c.in_ok-image_with_fields in
    made_with_fields Made (sketch_of sketch.sketch) image.field-0.items sketch.ensures.ok image.ensures.ok
