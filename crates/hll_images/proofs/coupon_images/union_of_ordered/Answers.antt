-- SPDX-License-Identifier: Apache-2.0
use Rattle.std.proofs.Common.{◌≡◌, ◌≢◌, List, ℕ, length, sym, ◌∙◌}
use Rattle.std.proofs.lemmas.Option.{IfSome_then}
use Rattle.std.proofs.lemmas.Result.{IfOk-weaker}
use Rattle.hll_base.proofs.Errors.{OnErr-of}
use Rattle.hll_coupons.specs.Coupons.{raw_coupons}
use Rattle.hll_coupons.proofs.Merging.{length-raw_coupons}
use Rattle.hll_images.specs.CouponImages.{order_of}
use Rattle.hll_images.specs.declared.coupon_images.OrderedImage.{OrderedImage}
use Rattle.hll_images.proofs.CouponImages.{both_read, image_of_union, no_table, none_first, none_second, other_bound}
use Rattle.hll_sketch.proofs.SizedImages.{IfNone_then}
use Rattle.hll_images.proofs.coupon_images.union_of_ordered.Goals as goal
use Rattle.hll_images.proofs.coupon_images.union_of_ordered.Goals.{then-left-eq0-via-then-left-eq0, then-left-eq0-via-else-left-eq0+then-right-eq0}

-- raw coupons in a number that isn't 0 are some
some_raw : (n : ℕ) (b : List ℕ) → (n ≡ 0 → ⊥) → length (raw_coupons n b) ≢ 0
some_raw n b has none = has (sym (length-raw_coupons n b) ∙ none)

pub returns-then-left-lg_max_k-clause-none : goal.returns-then-left-lg_max_k-clause-none
returns-then-left-lg_max_k-clause-none g c = λ b d left right. other_bound c.args.lg_max_k _ _ _ _ b d _ _ left right c.if-left-lg_max_k.true

pub returns-then-left-eq0-clause-none : goal.returns-then-left-eq0-clause-none
returns-then-left-eq0-clause-none g c = λ b d left right.
    elim c.then-left-eq0.branch [
      | then-left-eq0-via-then-left-eq0 w ↦ none_first c.args.lg_max_k _ _ _ _ b d _ _ left right (length-raw_coupons _ _ ∙ w.if-left-eq0.true)
      | then-left-eq0-via-else-left-eq0+then-right-eq0 w ↦ none_second c.args.lg_max_k _ _ _ _ b d _ _ left right (length-raw_coupons _ _ ∙ w.if-right-eq0.true)
    ]

pub returns-clause-some : goal.returns-clause-some
returns-clause-some g c =
    let l : OrderedImage = c.args.left in
    let r : OrderedImage = c.args.right in
    IfOk-weaker c.image_of_both.result _ _ (λ found some. IfSome_then found some λ image both b d left right.
    image_of_union c.args.lg_max_k l.lg_k r.lg_k l.lg_size r.lg_size b d (order_of l) (order_of r) left right c.if-left-lg_max_k.false
    (some_raw _ _ c.if-left-eq0.false) (some_raw _ _ c.if-right-eq0.false) c.args.hll_type image.items c.requires.left.lg_k both)
    c.image_of_both.ensures.some

pub returns-clause-none : goal.returns-clause-none
returns-clause-none g c =
    let l : OrderedImage = c.args.left in
    let r : OrderedImage = c.args.right in
    IfOk-weaker c.image_of_both.result _ _ (λ found none. IfNone_then found none λ full b d left right.
    no_table c.args.lg_max_k l.lg_k r.lg_k l.lg_size r.lg_size b d (order_of l) (order_of r) left right c.if-left-lg_max_k.false
    (some_raw _ _ c.if-left-eq0.false) (some_raw _ _ c.if-right-eq0.false) full)
    c.image_of_both.ensures.none

pub returns-clause-read : goal.returns-clause-read
returns-clause-read g c =
    OnErr-of c.image_of_both.result _ (λ b d left right. both_read c.args.lg_max_k _ _ _ _ b d _ _ left right c.if-left-lg_max_k.false c.requires.left.lg_k)
