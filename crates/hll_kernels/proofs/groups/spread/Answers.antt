-- SPDX-License-Identifier: Apache-2.0
use Rattle.std.proofs.Common.{w8, ap, ◌∙◌}
use Rattle.std.specs.Simd.Lanes.{number_l, digits_l}
use Rattle.std.proofs.lemmas.Simd.{below_from_Fits}
use Rattle.hll_kernels.proofs.SixBitLanes.{digits_pairs, spread_pairs, fields_of-spread}
use Rattle.hll_kernels.proofs.groups.spread.Goals as goal

pub returns : goal.returns
returns c =
    let small = below_from_Fits w8 _ c.fits-pairs.1 in
    ap (λ ws. digits_l 256 64 (number_l 65536 (spread_pairs 16 ws))) (digits_pairs 32 c.args.pairs c.fits-pairs.0 small) ∙ fields_of-spread c.args.pairs c.fits-pairs.0 small
