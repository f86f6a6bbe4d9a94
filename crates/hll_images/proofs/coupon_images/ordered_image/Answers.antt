-- SPDX-License-Identifier: Apache-2.0
use Rattle.std.proofs.Common.{◌≡◌, ◌<◌, ◌++◌, ℕ, List, Some, None, sym, ap, ◌∙◌, inl, inr, arith}
use Rattle.std.proofs.lemmas.List.Elements.{All-from_get_or}
use Rattle.hll_base.specs.declared.error.Reason.{Reason}
use Rattle.hll_sketch.specs.Checks.{first_failing, header_checks, checks_after}
use Rattle.hll_images.specs.CouponImages.{HasEvidentCoupons}
use Rattle.hll_sketch.specs.declared.header.Header.{Header}
use Rattle.hll_images.proofs.CouponImages.{in_order, is_ordered, width_in_header}
use Rattle.hll_sketch.proofs.FirstFailing.{failing_before}
use Rattle.hll_images.proofs.coupon_images.ordered_image.Goals as goal

pub returns-clause-some : goal.returns-clause-some
returns-clause-some c =
    let says = c.in-Ok.ensures.ok.2 in
    in_order c.args.bytes.now _ c.in_ok-raw_coupons.ensures.some c.in-Ok.header.lg_k c.in-Ok.header.lg_arr (ap (λ (h : Header). h.lg_k) says) (ap (λ (h : Header). h.lg_arr) says) c.in_ok-raw_coupons.ensures.ascend

pub returns-clause-ordered : goal.returns-clause-ordered
returns-clause-ordered c =
    is_ordered _ c.args.bytes.now (All-from_get_or (λ n. n < 256) c.args.bytes.now 0 (λ i within. omega (arith, c.type_inv.bytes i))) (returns-clause-some c)

-- a header that fails a check is not that of an image
never : (b : List ℕ) (e : Reason) → first_failing (header_checks b) ≡ Some e → HasEvidentCoupons b → ⊥
never b e fails (inl compact) = let none : Some e ≡ None = sym (failing_before (header_checks b) (checks_after b).size e fails) ∙ compact.sized in cc
never b e fails (inr placed) = let none : Some e ≡ None = sym (failing_before (header_checks b) ((checks_after b).size ++ (checks_after b).content) e fails) ∙ placed.faultless in cc

pub returns-in_default-clause-none : goal.returns-in_default-clause-none
returns-in_default-clause-none c = never c.args.bytes.now _ c.in_default.ensures.order

pub returns-clause-width : goal.returns-clause-width
returns-clause-width c = width_in_header c.args.bytes.now _ c.in_ok-raw_coupons.ensures.some c.in-Ok.header c.in-Ok.ensures.ok.2
