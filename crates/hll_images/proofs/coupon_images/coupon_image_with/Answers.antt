-- SPDX-License-Identifier: Apache-2.0
use Rattle.std.proofs.Common.{List, ℕ}
use Rattle.std.proofs.lemmas.Option.{IfSome_then}
use Rattle.std.proofs.lemmas.Result.{IfOk-weaker}
use Rattle.hll_coupons.specs.Coupons.{raw_coupons}
use Rattle.hll_images.specs.declared.coupon_images.OrderedImage.{OrderedImage}
use Rattle.hll_images.proofs.CouponImages.{image_with}
use Rattle.hll_images.proofs.coupon_images.coupon_image_with.Goals as goal

pub returns-in-Some-clause-some : goal.returns-in-Some-clause-some
returns-in-Some-clause-some g c =
    let a : OrderedImage = c.in-Some.ordered in
    let xs : List ℕ = raw_coupons a.raw_coupons.count a.raw_coupons.bytes.now in
    let of = c.in-Some.ensures.some in
    IfOk-weaker c.ordered_image_with.result _ _ (λ found some. IfSome_then found some λ written both.
    image_with a.lg_k a.lg_size c.args.image.now xs c.args.raw_coupons.now both.0 written.items a.hll_type of (c.in-Some.ensures.width of.sketch of.read) c.requires.some both.1 both.2)
    c.ordered_image_with.ensures.some
