-- SPDX-License-Identifier: Apache-2.0
use Rattle.std.proofs.Common.{ℕ, ◌-◌, ◌^◌, ◌<◌, ◌↔◌, [], ◌∷◌, List, length, map, slice_index, ap, subst, arith}
use Rattle.std.specs.Int.{w32, from_le_bytes}
use Rattle.std.specs.Prelude.{IsTrue}
use Rattle.std.specs.List.Sorted.{IsStrictlyIncreasing}
use Rattle.hll_coupons.proofs.Merging.{increasing_more, length-raw_coupons}
use Rattle.hll_sketch.proofs.raw_coupons.RawCoupons.ascend.Goals as goal

-- numbers increase from one on, if and only if the first is greater and they increase
from_first : (last : ℕ) (xs : List ℕ) → 0 < length xs → IsStrictlyIncreasing (last ∷ xs) ↔ ((last < slice_index xs 0) × IsStrictlyIncreasing xs)
from_first last [] some = absurd (omega (arith, some))
from_first last (x ∷ xs) some = increasing_more last x xs

pub returns : goal.returns
returns c =
    let items : List (List ℕ) = c.elements-elements.result.now in
    let all : List ℕ = map (from_le_bytes w32) items in
    let n : ℕ = c.args.self.now.count in
    let some : 0 < length all = omega (arith, c.if-self-eq0.false, ap length c.elements-elements.ensures, length-raw_coupons n c.args.self.now.bytes.now) in
    let above : 2 ^ 26 - 1 < slice_index all 0 = omega (arith, c.if-raw_coupon_at-le-LAST_WITHOUT_VALUE.false, c.raw_coupon_at.ensures) in
    let step = from_first (2 ^ 26 - 1) all some in
    subst (λ ws. IsTrue c.ascends.result ↔ IsStrictlyIncreasing ((2 ^ 26 - 1) ∷ ws)) c.elements-elements.ensures
    (λ t. step.1 (above, c.ascends.ensures.0 t), λ up. c.ascends.ensures.1 (step.0 up).1)
