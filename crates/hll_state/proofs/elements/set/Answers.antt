-- SPDX-License-Identifier: Apache-2.0
use Rattle.std.proofs.Common.{◌≡◌, ◌∙◌, ap, arith}
use Rattle.std.specs.Int.{w32, from_le_bytes}
use Rattle.std.specs.Prelude.{slice_set}
use Rattle.std.proofs.lemmas.List.{map-set}
use Rattle.std.proofs.lemmas.Nat.{from_le_bytes-to_le_bytes_4}
use Rattle.hll_state.specs.CouponRun.{raws}
use Rattle.hll_state.proofs.elements.set.Goals as goal

pub returns : goal.returns
returns c =
    let back : from_le_bytes w32 c.to_le_bytes.result ≡ c.args.raw =
    ap (from_le_bytes w32) c.to_le_bytes.ensures ∙ from_le_bytes-to_le_bytes_4 c.args.raw (omega (arith, c.ranges.raw.fits)) in
    map-set (from_le_bytes w32) c.args.coupons.now c.args.at c.to_le_bytes.result ∙ ap (slice_set (raws c.args.coupons.now) c.args.at) back
