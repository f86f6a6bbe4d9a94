-- SPDX-License-Identifier: Apache-2.0
use Rattle.std.proofs.Common.{◌<◌, ap, arith}
use Rattle.std.proofs.lemmas.List.Elements.{All-from_get_or}
use Rattle.hll_sketch.specs.declared.header.Header.{Header}
use Rattle.hll_sketch.proofs.BorrowedCoupons.{increasing_coupons}
use Rattle.hll_images.proofs.CouponImages.{ascends_after, in_order, is_ordered}
use Rattle.hll_images.proofs.coupon_images.ascending_image.Goals as goal

pub returns-clause-some : goal.returns-clause-some
returns-clause-some c =
    let says = c.in-Ok.ensures.ok.2 in
    let up = c.ascend.ensures.0 c.if-not-ascend.false in
    in_order c.args.bytes.now _ (c.in_ok-raw_coupons.ensures.coupons (increasing_coupons _ up)) c.in-Ok.header.lg_k c.in-Ok.header.lg_arr (ap (λ (h : Header). h.lg_k) says) (ap (λ (h : Header). h.lg_arr) says) (ascends_after _ up)

pub returns-clause-ordered : goal.returns-clause-ordered
returns-clause-ordered c =
    is_ordered _ c.args.bytes.now (All-from_get_or (λ n. n < 256) c.args.bytes.now 0 (λ i within. omega (arith, c.type_inv.bytes i))) (returns-clause-some c)
