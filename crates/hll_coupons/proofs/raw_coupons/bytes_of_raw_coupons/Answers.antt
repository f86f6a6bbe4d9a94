-- SPDX-License-Identifier: Apache-2.0
use Rattle.std.proofs.Common.{◌≡◌, ℕ, List, ◌*◌, take, ap, ◌∙◌, arith}
use Rattle.hll_coupons.proofs.Merging.{raw_coupons_written_back}
use Rattle.hll_coupons.proofs.raw_coupons.bytes_of_raw_coupons.Goals as goal

pub returns : goal.returns
returns c =
    let n : ℕ = c.args.count in
    let b : List ℕ = c.args.bytes.now in
    let turned : n * 4 ≡ 4 * n = omega arith in
    ap (λ m. take m b) turned ∙ raw_coupons_written_back n b c.requires (λ i. omega (arith, c.type_inv.bytes i))
