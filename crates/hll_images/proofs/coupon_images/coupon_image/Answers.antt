-- SPDX-License-Identifier: Apache-2.0
use Rattle.std.proofs.Common.{◌≡◌, ℕ, List, ◌*◌, ◌^◌, ◌<◌, length, inl, inr, ap, ◌∙◌, arith}
use Rattle.std.proofs.lemmas.Nat.{pow_below}
use Rattle.hll_coupons.specs.Coupons.{coupon_bytes}
use Rattle.hll_coupons.proofs.Payloads.{length-coupon_bytes}
use Rattle.hll_images.proofs.coupon_images.coupon_image.Goals as goal

-- there are four bytes for each coupon
four_each : (b order : List ℕ) → b ≡ coupon_bytes order → length b ≡ 4 * length order
four_each b order is = ap length is ∙ length-coupon_bytes order

pub list_image-requires : goal.list_image-requires
list_image-requires g c = elim c.requires.table.2 [
  | inl few ↦ omega (arith, four_each c.args.coupons.now c.requires.table.0 c.requires.table.1, few.1)
  | inr set ↦ absurd (omega (arith, set.0, c.if-lg_size-eq-LG_LIST_BUCKETS.true))
]

pub set_image-requires : goal.set_image-requires
set_image-requires g c = elim c.requires.table.2 [
  | inl few ↦ omega (arith, four_each c.args.coupons.now c.requires.table.0 c.requires.table.1, few.1)
  | inr set ↦
      let most : 2 ^ c.args.lg_size < 2 ^ 26 = pow_below c.args.lg_size 26 (omega (arith, set.1, c.requires.lg_k.high)) in
      omega (arith, four_each c.args.coupons.now c.requires.table.0 c.requires.table.1, set.2, most)
]
