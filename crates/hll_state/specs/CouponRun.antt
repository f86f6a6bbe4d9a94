-- SPDX-License-Identifier: Apache-2.0
-- Coupons in the elements of a slice: a run, and a tail in any order, which may repeat coupons. Calls leave an ascending run;
-- no definition relies on that.
use Rattle.std.specs.Prelude.{ℕ, ◌≤◌, List, length, map, take}
use Rattle.std.specs.Int.{w32, from_le_bytes}
use Rattle.hll_coupons.specs.Pair.{Pairs, set_of}
use Rattle.hll_state.specs.declared.run.CouponRun.{CouponRun}

-- the raw coupons of elements, the lowest byte first
abbrev pub raws : List (List ℕ) → List ℕ
raws coupons = map (from_le_bytes w32) coupons

-- the set of all coupons of the run and the tail
abbrev pub members : CouponRun → List (List ℕ) → Pairs
members r coupons = set_of (take r.used (raws coupons))

-- the run is within the elements in use, and these are within the slice; nothing is required of what they hold
pub record IsRun (r : CouponRun) (coupons : List (List ℕ)) : Type 0 where
  pub run : r.run ≤ r.used
  pub used : r.used ≤ length coupons
