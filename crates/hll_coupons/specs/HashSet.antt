-- SPDX-License-Identifier: Apache-2.0
-- Sets of coupons in a hash table searched by raw coupons (docs/MODEL.md, "Tables" and "Probing").
use Rattle.hll_coupons.specs.Probe.{IsProbed}
use Rattle.hll_coupons.specs.Table.{Table, IsTable}

-- a table in which a search for each coupon finds it
pub record IsHashSet (t : Table) : Type 0 where
  pub table : IsTable t
  pub probed : IsProbed (λ c. c) t.lg_size t.buckets
