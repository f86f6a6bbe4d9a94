-- SPDX-License-Identifier: Apache-2.0
use Rattle.std.proofs.Common.{◌≡◌, ℕ, List, ◌++◌, length, ap, ◌∙◌}
use Rattle.std.proofs.lemmas.Result.{IfOk-weaker}
use Rattle.hll_coupons.specs.Coupons.{coupon_bytes, list_header, list_bytes}
use Rattle.hll_coupons.proofs.Merging.{count_in_bytes}
use Rattle.hll_coupons.proofs.raw_coupons.list_image.Goals as goal

pub returns-clause-ok : goal.returns-clause-ok
returns-clause-ok g c =
    let k = c.args.lg_config_k in
    let width = c.args.hll_type in
    IfOk-weaker c.image_of.result _ (λ image. (order : List ℕ) → c.args.coupons.now ≡ coupon_bytes order → image.items ≡ list_bytes k width order)
    (λ image is order same.
    is ∙ ap (λ h. h ++ c.args.coupons.now) (c.list_header.ensures ∙ ap (list_header k width) (count_in_bytes c.args.coupons.now order same))
    ∙ ap (λ b. list_header k width (length order) ++ b) same)
    c.image_of.ensures.ok
