-- SPDX-License-Identifier: Apache-2.0
-- Coupons in the buckets of a table, as an updatable image has them (docs/FORMAT.md, "LIST" and "SET").
use Rattle.std.specs.Prelude.{◌≡◌, ℕ, ◌<◌, ◌≤◌, ◌==◌, if◌then◌else◌, false, List, length, drop, None}
use Rattle.hll_coupons.specs.Coupons.{AreCoupons}
use Rattle.hll_coupons.specs.Payload.{set_count}
use Rattle.hll_coupons.specs.Table.{coupons_in}
use Rattle.hll_sketch.specs.Checks.{first_fault}
use Rattle.hll_sketch.specs.Image.{stage_bits, state_byte, is_flagged}

-- n of these buckets are filled, and they hold coupons
pub record HoldCoupons (n : ℕ) (buckets : List ℕ) : Type 0 where
  pub are : AreCoupons (coupons_in buckets)
  pub number : length (coupons_in buckets) ≡ n

-- the number of coupons that an image of a list or a set says it has
abbrev pub number_in : List ℕ → ℕ
number_in b = if stage_bits b == 0 then state_byte b else set_count (drop 8 b)

-- the bytes begin with an updatable image of a list or a set, of 1 to 128 coupons
pub record HasUpdatableCoupons (b : List ℕ) : Type 0 where
  pub stage : stage_bits b < 2
  pub faultless : first_fault b ≡ None
  pub updatable : is_flagged 8 b ≡ false
  pub some : 1 ≤ number_in b
  pub few : number_in b ≤ 128
