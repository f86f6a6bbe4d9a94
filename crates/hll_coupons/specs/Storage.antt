-- SPDX-License-Identifier: Apache-2.0
-- Buckets for coupons, in the value itself or allocated.
use Rattle.std.specs.Prelude.{ℕ, List}
use Rattle.hll_coupons.specs.declared.storage.Storage.{Storage}
use Rattle.hll_coupons.specs.declared.storage.Storage.TheVariants.{InValue, Allocated}

-- the buckets, in their order
abbrev pub buckets_in : {A : Type 0} → Storage A → List ℕ
buckets_in (InValue coupons alloc) = coupons
buckets_in (Allocated coupons) = coupons.items
