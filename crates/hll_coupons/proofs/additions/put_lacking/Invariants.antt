-- SPDX-License-Identifier: Apache-2.0
use Rattle.std.proofs.Common.{◌≡◌}
use Rattle.std.specs.FinSet.{union}
use Rattle.hll_coupons.specs.HashSet.{IsHashSet}
use Rattle.hll_coupons.specs.LongSearches.{AreFor}
use Rattle.hll_coupons.specs.Pair.{set_of}
use Rattle.hll_coupons.specs.Table.{coupons_of}
use Rattle.hll_coupons.proofs.additions.put_lacking.Given as goal

-- those of the coupons so far that the table lacked are put
abbrev pub invariant-loop-coupon : goal.invariant-loop-coupon
invariant-loop-coupon g l = record {
  size : l.table.lg_size ≡ l.initial.table.lg_size;
  members : coupons_of l.table ≡ union (coupons_of l.initial.table) (set_of l.yielded);
  set : IsHashSet l.table;
  cycles : AreFor l.table.lg_size l.table.buckets l.searches;
}
