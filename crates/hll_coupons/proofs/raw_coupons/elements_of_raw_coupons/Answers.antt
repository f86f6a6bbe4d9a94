-- SPDX-License-Identifier: Apache-2.0
use Rattle.std.proofs.Common.{◌/◌, length, map, take, ap, ◌∙◌, arith}
use Rattle.std.specs.Int.{w32, from_le_bytes}
use Rattle.hll_coupons.proofs.Elements.{raws-chunks}
use Rattle.hll_coupons.proofs.raw_coupons.elements_of_raw_coupons.Goals as goal

pub returns : goal.returns
returns c =
    let n = c.args.count in
    ap (λ xs. map (from_le_bytes w32) (take n xs)) c.as_chunks.ensures.front
    ∙ raws-chunks n (length c.args.bytes.now / 4) c.args.bytes.now (omega (arith, c.requires)) (omega arith)
