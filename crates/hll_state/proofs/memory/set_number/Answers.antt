-- SPDX-License-Identifier: Apache-2.0
use Rattle.std.proofs.Common.{◌≡◌, ◌∙◌, ap, arith}
use Rattle.std.specs.Int.{w32, from_le_bytes}
use Rattle.std.specs.Prelude.{slice_set}
use Rattle.std.proofs.lemmas.List.{map-set, drop-set-lt}
use Rattle.std.proofs.lemmas.Nat.{from_le_bytes-to_le_bytes_4}
use Rattle.hll_state.specs.CouponRun.{raws}
use Rattle.hll_state.proofs.memory.set_number.Goals as goal

pub returns-clause-numbers : goal.returns-clause-numbers
returns-clause-numbers c =
    let back : from_le_bytes w32 c.to_le_bytes.result ≡ c.args.number =
    ap (from_le_bytes w32) c.to_le_bytes.ensures ∙ from_le_bytes-to_le_bytes_4 c.args.number (omega (arith, c.ranges.number.fits)) in
    map-set (from_le_bytes w32) c.args.elements.now c.args.at c.to_le_bytes.result ∙ ap (slice_set (raws c.args.elements.now) c.args.at) back

pub returns-clause-rest : goal.returns-clause-rest
returns-clause-rest c = drop-set-lt 10 c.args.elements.now c.args.at c.to_le_bytes.result c.requires.at
