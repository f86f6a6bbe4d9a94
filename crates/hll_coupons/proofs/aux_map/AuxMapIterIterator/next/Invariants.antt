-- SPDX-License-Identifier: Apache-2.0
use Rattle.std.proofs.Common.{◌≡◌, ◌-◌, length, drop}
use Rattle.hll_coupons.specs.Table.{coupons_in}
use Rattle.hll_coupons.proofs.aux_map.AuxMapIterIterator.next.Given as goal

-- empty buckets are passed over
abbrev pub invariant-loop-entry : goal.invariant-loop-entry
invariant-loop-entry g l = coupons_in (drop l.self-inside.bucket l.self-inside.table.buckets) ≡ coupons_in (drop l.initial.self-inside.bucket l.initial.self-inside.table.buckets)

abbrev pub decreases-loop-entry : goal.decreases-loop-entry
decreases-loop-entry g l = length l.self-inside.table.buckets - l.self-inside.bucket
