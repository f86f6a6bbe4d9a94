-- SPDX-License-Identifier: Apache-2.0
use Rattle.std.proofs.Common.{◌≡◌, ℕ, List, ◌++◌, length, ap, ◌∙◌, append_assoc}
use Rattle.std.specs.Int.{w32, to_le_bytes}
use Rattle.std.proofs.lemmas.Result.{IfOk-weaker}
use Rattle.hll_coupons.specs.Coupons.{coupon_bytes, set_header, set_bytes}
use Rattle.hll_coupons.proofs.Merging.{count_in_bytes}
use Rattle.hll_coupons.proofs.raw_coupons.set_image.Goals as goal

pub returns-clause-ok : goal.returns-clause-ok
returns-clause-ok g c =
    let front : List ℕ = set_header c.args.lg_config_k c.args.hll_type c.args.lg_size in
    IfOk-weaker c.image_of.result _ (λ image. (order : List ℕ) → c.args.coupons.now ≡ coupon_bytes order → image.items ≡ set_bytes c.args.lg_config_k c.args.hll_type c.args.lg_size order)
    (λ image is order same.
    is ∙ ap (λ h. h ++ c.args.coupons.now) (c.set_header.ensures ∙ ap (λ n. front ++ to_le_bytes w32 n) (count_in_bytes c.args.coupons.now order same))
    ∙ ap (λ b. (front ++ to_le_bytes w32 (length order)) ++ b) same ∙ append_assoc front (to_le_bytes w32 (length order)) (coupon_bytes order))
    c.image_of.ensures.ok
