-- SPDX-License-Identifier: Apache-2.0
use Rattle.std.proofs.Common.{◌≡◌, ℕ, ◌≤◌, ◌++◌, length, map, drop, true}
use Rattle.std.specs.FinSet.{contains}
use Rattle.std.specs.Int.{w32, from_le_bytes}
use Rattle.hll_coupons.specs.Table.{coupons_in, coupons_of, filled_from_front}
use Rattle.hll_coupons.specs.Coupons.{coupons_at, AreCoupons}
use Rattle.hll_coupons.proofs.Reading.{among}
use Rattle.hll_coupons.proofs.list.read_buckets.Given as goal

-- the coupons of the buckets so far are held, none greater than the greatest, which is no less than a coupon without a value;
-- and the rest is to come
abbrev pub invariant-loop-element : goal.invariant-loop-element
invariant-loop-element g l = record {
  read : coupons_at l.compact l.fn.buckets l.fn.cursor ≡ coupons_in l.list.buckets ++ among l.compact (map (from_le_bytes w32) (drop l.element-index l.element-items));
  size : l.list.lg_size ≡ l.fn.list.lg_size;
  few : length (coupons_in l.list.buckets) ≤ l.element-index;
  front : l.list ≡ filled_from_front l.list.lg_size (coupons_in l.list.buckets);
  are : AreCoupons (coupons_in l.list.buckets);
  valued : 67108863 ≤ l.greatest;
  bound : (c : ℕ) → contains (coupons_of l.list) c ≡ true → c ≤ l.greatest;
}
