-- SPDX-License-Identifier: Apache-2.0
use Rattle.std.proofs.Common.{◌≡◌, ℕ, ◌/◌, ◌^◌, get_or, ◌∙◌, arith}
use Rattle.hll_coupons.specs.Pair.{slot_of, pair}
use Rattle.hll_c.proofs.coupons.CouponSliceCoupons.coupon.Goals as goal

pub returns : goal.returns
returns c =
    let raw : ℕ = get_or c.args.self.now.raw_coupons.now c.args.number 0 in
    c.pack.ensures ∙ (let e : pair (slot_of raw) (raw / 2 ^ 26) ≡ raw = omega arith in e)
