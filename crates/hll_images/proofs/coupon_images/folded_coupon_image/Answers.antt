-- SPDX-License-Identifier: Apache-2.0
use Rattle.std.proofs.Common.{◌∙◌, ℕ, List, length, sym, ap, arith}
use Rattle.hll_coupons.specs.Coupons.{raw_coupons}
use Rattle.hll_coupons.proofs.Merging.{length-raw_coupons}
use Rattle.hll_sketch.specs.Stage.{stage}
use Rattle.hll_images.specs.declared.coupon_images.OrderedImage.{OrderedImage}
use Rattle.hll_images.proofs.CouponImages.{image_folded}
use Rattle.hll_sketch.proofs.LegalSketches.{legal_size}
use Rattle.hll_images.proofs.coupon_images.folded_coupon_image.Goals as goal

pub coupon_image-requires-clause-table : goal.coupon_image-requires-clause-table
coupon_image-requires-clause-table g c =
    let a : OrderedImage = c.in-Some.ordered in
    let xs : List ℕ = raw_coupons a.raw_coupons.count a.raw_coupons.bytes.now in
    let number = length-raw_coupons a.raw_coupons.count a.raw_coupons.bytes.now in
    (xs, c.as_bytes-coupons.ensures, legal_size c.args.lg_k 3 (length xs) c.in-Some-stage.lg_size (ap (stage c.args.lg_k 3) number ∙ sym c.in-Some-stage.ensures))

pub returns-clause-some : goal.returns-clause-some
returns-clause-some g c =
    let a : OrderedImage = c.in-Some.ordered in
    let of = c.in-Some.ensures.some in
    let xs : List ℕ = raw_coupons a.raw_coupons.count a.raw_coupons.bytes.now in
    let number = length-raw_coupons a.raw_coupons.count a.raw_coupons.bytes.now in
    image_folded a.lg_k a.lg_size c.args.image.now xs of c.args.lg_k c.in-Some-stage.lg_size a.hll_type c.in_ok-written.written.items
    (c.in-Some.ensures.width of.sketch of.read) c.requires (omega (arith, c.if-ordered-lg_k.false)) (ap (stage c.args.lg_k 3) number ∙ sym c.in-Some-stage.ensures)
    (c.in_ok-written.ensures.ok xs c.as_bytes-coupons.ensures)
