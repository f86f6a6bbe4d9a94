-- SPDX-License-Identifier: Apache-2.0
-- A pair of a slot and a value, and finite sets of pairs (docs/MODEL.md, "Pairs").
use Rattle.std.specs.Prelude.{ℕ, ◌+◌, ◌*◌, ◌/◌, ◌%◌, ◌^◌, ◌≤◌, List}
use Rattle.std.specs.Ordering.{nat_cmp}
use Rattle.std.specs.FinSet.{FinSet, from_list}

-- the slot of a raw coupon, its low 26 bits
abbrev pub slot_of : ℕ → ℕ
slot_of raw = raw % 2 ^ 26

-- the value of a raw coupon, the bits above the slot
abbrev pub value_of : ℕ → ℕ
value_of raw = raw / 2 ^ 26

-- the raw coupon of a slot and a value
abbrev pub pair : ℕ → ℕ → ℕ
pair slot value = value * 2 ^ 26 + slot

-- the raw coupon of a pair: its value is from 1 to 63
pub record IsPair (raw : ℕ) : Type 0 where
  pub valued : 1 ≤ value_of raw
  pub small : value_of raw ≤ 63

-- a finite set of pairs, each as its raw coupon
abbrev pub Pairs : Type 0
Pairs = FinSet nat_cmp

-- the set of the raw coupons of a list
abbrev pub set_of : List ℕ → Pairs
set_of raws = from_list raws
