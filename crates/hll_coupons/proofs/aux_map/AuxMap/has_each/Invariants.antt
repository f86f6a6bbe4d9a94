-- SPDX-License-Identifier: Apache-2.0
use Rattle.std.proofs.Common.{◌≡◌, true, take, map}
use Rattle.std.specs.FinSet as set
use Rattle.std.specs.Int.{w32, from_le_bytes}
use Rattle.std.specs.List.{list_all}
use Rattle.hll_coupons.specs.Table.{coupons_of}
use Rattle.hll_coupons.proofs.aux_map.AuxMap.has_each.Given as goal

-- the map has each coupon so far
abbrev pub invariant-loop-index : goal.invariant-loop-index
invariant-loop-index g l = list_all (set.contains (coupons_of l.self.table)) (take l.index (map (from_le_bytes w32) l.coupons)) ≡ true
