-- SPDX-License-Identifier: Apache-2.0
use Rattle.std.proofs.Common.{◌≡◌, length}
use Rattle.hll_coupons.specs.Keys.{key_of}
use Rattle.hll_coupons.specs.Pair.{set_of}
use Rattle.hll_coupons.specs.Probe.{IsProbed, PutsEach}
use Rattle.hll_coupons.specs.Table.{coupons_in, IsTable}
use Rattle.hll_coupons.proofs.filling.put_by_search.Given as goal

-- the entries so far are put
abbrev pub invariant-loop-entry : goal.invariant-loop-entry
invariant-loop-entry g l = record {
  size : l.into.lg_size ≡ l.fn.into.lg_size;
  buckets : PutsEach (key_of l.fn.by) l.fn.into.lg_size l.fn.into.buckets l.yielded l.into.buckets;
  probed : IsProbed (key_of l.fn.by) l.fn.into.lg_size l.into.buckets;
  members : set_of (coupons_in l.into.buckets) ≡ set_of l.yielded;
  count : length (coupons_in l.into.buckets) ≡ length l.yielded;
  table : IsTable l.into;
}
