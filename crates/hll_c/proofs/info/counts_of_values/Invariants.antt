-- SPDX-License-Identifier: Apache-2.0
use Rattle.std.proofs.Common.{◌≡◌, map, take, length}
use Rattle.hll_coupons.specs.Pair.{value_of}
use Rattle.hll_c.specs.Info.{AreCountsOf}
use Rattle.hll_c.proofs.info.counts_of_values.Given as goal

-- the raw coupons so far were counted
abbrev pub invariant-loop-raw : goal.invariant-loop-raw
invariant-loop-raw l = AreCountsOf (take l.raw-index (map value_of l.raw_coupons)) l.counts × (length l.counts ≡ 64)
