-- SPDX-License-Identifier: Apache-2.0
use Rattle.std.proofs.Common.{sym, ◌∙◌}
use Rattle.hll_coupons.proofs.Merging.{length-raw_coupons}
use Rattle.hll_images.proofs.CouponImages.{image_of_one, at_other, none_at}
use Rattle.hll_images.proofs.coupon_images.union_of_one_ordered.Goals as goal
use Rattle.hll_images.proofs.coupon_images.union_of_one_ordered.Goals.{then-image-lg_max_k-via-then-image-lg_max_k, then-image-lg_max_k-via-else-image-lg_max_k+then-image-eq0}

pub returns-then-image-lg_max_k-clause-none : goal.returns-then-image-lg_max_k-clause-none
returns-then-image-lg_max_k-clause-none g c = λ b of.
    elim c.then-image-lg_max_k.branch [
      | then-image-lg_max_k-via-then-image-lg_max_k w ↦ at_other c.args.lg_max_k _ _ b _ of w.if-image-lg_max_k.true
      | then-image-lg_max_k-via-else-image-lg_max_k+then-image-eq0 w ↦ none_at c.args.lg_max_k _ _ b _ of (length-raw_coupons _ _ ∙ w.if-image-eq0.true)
    ]

pub returns-clause-some : goal.returns-clause-some
returns-clause-some g c = λ b of.
    image_of_one c.args.lg_max_k _ _ b _ of c.if-image-lg_max_k.false (λ none. c.if-image-eq0.false (sym (length-raw_coupons _ _) ∙ none)) c.requires.lg_k c.args.hll_type _ c.in_ok-ordered_image_at.ensures.ok
