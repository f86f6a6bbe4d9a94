-- SPDX-License-Identifier: Apache-2.0
use Rattle.std.proofs.Common.{arith}
use Rattle.hll_coupons.specs.Keys.{key_of}
use Rattle.hll_coupons.proofs.Putting.{full_of_passes}
use Rattle.hll_coupons.proofs.long_searches.LongSearches.end_of_long.Goals as goal

pub unreachable-requires : goal.unreachable-requires
unreachable-requires g c =
    omega (arith, c.requires.room, full_of_passes (key_of c.args.by) c.args.lg_size c.args.buckets.now c.args.key c.requires.size c.in_default.ensures.full)
