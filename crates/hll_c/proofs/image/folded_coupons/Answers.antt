-- SPDX-License-Identifier: Apache-2.0
use Rattle.std.proofs.Common.{refl, subst}
use Rattle.std.specs.Option.{IfSome}
use Rattle.hll_images.specs.CouponImages.{IsFoldedImage}
use Rattle.hll_c.proofs.Images.{fold_in_bytes}
use Rattle.hll_c.proofs.image.folded_coupons.Goals as goal

pub returns-in-Some-clause-some : goal.returns-in-Some-clause-some
returns-in-Some-clause-some c =
    fold_in_bytes c.args.lg_k c.args.lg_k c.args.image.now c.in-Some.written.items c.requires refl
    (subst (λ o. IfSome o (λ written. IsFoldedImage c.args.lg_k c.args.image.now written.items)) c.in-Some.is c.in_ok-written.ensures.some)
