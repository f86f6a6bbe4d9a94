-- SPDX-License-Identifier: Apache-2.0
-- Slots and values as one number each, so that sorting finds the greatest value at each slot.
use Rattle.std.specs.Prelude.{ℕ, ◌-◌, ◌^◌, ◌/◌, ◌%◌, ◌<◌, ◌≤◌, ◌==◌, if◌then◌else◌, List, map}
use Rattle.std.specs.List.{range_with_len}
use Rattle.hll_coupons.specs.Fold.{greatest}

-- the slot of a key, and its value, of 1 to 63: at each slot the greater value is the smaller key
abbrev pub slot_of_key : ℕ → ℕ
slot_of_key key = key / 64

abbrev pub value_of_key : ℕ → ℕ
value_of_key key = 63 - key % 64

-- the value of a key if its slot is s, else 0
abbrev pub value_in_key : ℕ → ℕ → ℕ
value_in_key s key = if slot_of_key key == s then value_of_key key else 0

-- a key of one of 2^k slots
pub record IsKey (k key : ℕ) : Type 0 where
  pub slot : slot_of_key key < 2 ^ k
  pub value : 1 ≤ value_of_key key

-- the registers of keys: at each of 2^k slots the greatest value of the keys with this slot, or 0
abbrev pub registers_of_keys : ℕ → List ℕ → List ℕ
registers_of_keys k keys = map (λ s. greatest (value_in_key s) keys) (range_with_len 0 (2 ^ k))
