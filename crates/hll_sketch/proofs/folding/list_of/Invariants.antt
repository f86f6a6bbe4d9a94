-- SPDX-License-Identifier: Apache-2.0
use Rattle.std.proofs.Common.{◌≡◌}
use Rattle.hll_coupons.specs.Pair.{set_of}
use Rattle.hll_coupons.specs.Table.{coupons_of}
use Rattle.hll_sketch.proofs.folding.list_of.Given as goal

-- the list has the coupons so far
abbrev pub invariant-loop-coupon : goal.invariant-loop-coupon
invariant-loop-coupon g l = (l.list.lg_size ≡ 3) × (coupons_of l.list ≡ set_of l.yielded)
