-- SPDX-License-Identifier: Apache-2.0
use Rattle.std.proofs.Common.{◌≡◌, ℕ, [], ◌∷◌, ap, subst, ◌∙◌, arith}
use Rattle.std.specs.Option.{IfSome}
use Rattle.hll_base.proofs.Errors.{IfErr-passed}
use Rattle.hll_coupons.specs.Pair.{pair, set_of, slot_of}
use Rattle.hll_sketch.specs.Adding.{add}
use Rattle.hll_images.specs.CouponImages.{IsImageWith}
use Rattle.hll_sketch.specs.Layout.{sketch_of}
use Rattle.hll_images.specs.RegisterImages.{IsFilledImageWith}
use Rattle.hll_c.specs.Answers.{RefusesWith, image_refused}
use Rattle.hll_c.specs.Calls.{AreOfCoupon, HasCoupon, IsMadeOf}
use Rattle.hll_c.proofs.Answers.{made_with_fields, not_so}
use Rattle.hll_c.proofs.Images.{coupon_in_bytes, coupon_in_registers, refuses_argument, refuses_memory}
use Rattle.hll_c.proofs.image.with_coupon.Goals as goal

-- the slot is below 2^26, so it is the slot of the coupon
packed : (slot value coupon : ℕ) → AreOfCoupon slot value → coupon ≡ pair (slot_of slot) value → coupon ≡ pair slot value
packed slot value coupon are is = is ∙ ap (λ s. pair s value) (let e : slot_of slot ≡ slot = omega (arith, are.slot_is) in e)

pub returns-then-not-are_of_coupon-clause-err : goal.returns-then-not-are_of_coupon-clause-err
returns-then-not-are_of_coupon-clause-err c =
    let Are = AreOfCoupon c.args.slot c.args.value in
    refuses_argument Are c.args.image.now c.new.result c.new.ensures (not_so c.are_of_coupon.result Are c.if-not-are_of_coupon.true c.are_of_coupon.ensures)

pub returns-in_err-written-clause-err : goal.returns-in_err-written-clause-err
returns-in_err-written-clause-err c =
    let e = c.in_err-written in
    IfErr-passed (RefusesWith (AreOfCoupon c.args.slot c.args.value) c.args.image.now) c.from_residual.result e.field-0.0 c.from_residual.ensures.1
    (image_refused (c.are_of_coupon.ensures.0 c.if-not-are_of_coupon.false) (refuses_memory c.args.image.now e.ensures.read.0 e.field-0.0 e.ensures.read.1 e.ensures.err))

pub returns-in-Some-clause-ok : goal.returns-in-Some-clause-ok
returns-in-Some-clause-ok c =
    coupon_in_bytes c.args.slot c.args.value c.raw.result c.args.image.now c.in-Some.written.items (c.are_of_coupon.ensures.0 c.if-not-are_of_coupon.false) (c.raw.ensures ∙ packed c.args.slot c.args.value c.pack-coupon.result (c.are_of_coupon.ensures.0 c.if-not-are_of_coupon.false) c.pack-coupon.ensures)
    (subst (λ o. IfSome o (λ written. IsImageWith (c.raw.result ∷ []) c.args.image.now written.items)) c.in-Some.is c.in_ok-written.ensures.some)

pub returns-in-Some-register_image_with-clause-ok : goal.returns-in-Some-register_image_with-clause-ok
returns-in-Some-register_image_with-clause-ok c =
    let found = c.in-Some-register_image_with in
    coupon_in_registers c.args.slot c.args.value c.raw-2.result c.args.image.now found.parts (c.are_of_coupon.ensures.0 c.if-not-are_of_coupon.false) (c.raw-2.ensures ∙ packed c.args.slot c.args.value c.pack-coupon.result (c.are_of_coupon.ensures.0 c.if-not-are_of_coupon.false) c.pack-coupon.ensures)
    (subst (λ o. IfSome o (λ parts. IsFilledImageWith (c.raw-2.result ∷ []) c.args.image.now parts)) found.is c.register_image_with.ensures.some)

pub returns-in_err-sketch-clause-err : goal.returns-in_err-sketch-clause-err
returns-in_err-sketch-clause-err c =
    let e = c.in_err-sketch in
    IfErr-passed (RefusesWith (AreOfCoupon c.args.slot c.args.value) c.args.image.now) c.from_residual-in_err-sketch.result e.field-0.0 c.from_residual-in_err-sketch.ensures.1
    (image_refused (c.are_of_coupon.ensures.0 c.if-not-are_of_coupon.false) e.ensures.err)

pub returns-in_err-image_with_fields-clause-err : goal.returns-in_err-image_with_fields-clause-err
returns-in_err-image_with_fields-clause-err c =
    let e = c.in_err-image_with_fields in
    let made = c.in_ok-sketch.ensures.ok in
    IfErr-passed (RefusesWith (AreOfCoupon c.args.slot c.args.value) c.args.image.now) c.from_residual-in_err-image_with_fields.result e.field-0.0 c.from_residual-in_err-image_with_fields.ensures.1
    (image_refused (c.are_of_coupon.ensures.0 c.if-not-are_of_coupon.false) (refuses_memory c.args.image.now made.sketch e.field-0.0 made.read e.ensures.err))

pub returns-clause-ok : goal.returns-clause-ok
returns-clause-ok c =
    let Made = IsMadeOf c.args.image.now (HasCoupon c.args.slot c.args.value) in
    let sketch = c.in_ok-sketch in
    let made = sketch.ensures.ok in
    let image = c.in_ok-image_with_fields in
    made_with_fields Made (sketch_of sketch.sketch) image.field-0.items
    (record {
      sketch = made.sketch;
      read = made.read;
      is_made = record {
        are = c.are_of_coupon.ensures.0 c.if-not-are_of_coupon.false;
        is = made.is_made ∙ ap (λ n. add made.sketch (set_of (n ∷ []))) (packed c.args.slot c.args.value c.pack-coupon.result (c.are_of_coupon.ensures.0 c.if-not-are_of_coupon.false) c.pack-coupon.ensures);
      };
    })
    image.ensures.ok
