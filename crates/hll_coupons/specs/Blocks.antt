-- SPDX-License-Identifier: Apache-2.0
-- Bits in blocks of 64, in their order.
use Rattle.std.specs.Prelude.{◌≡◌, ℕ, ◌*◌, ◌/◌, ◌%◌, ◌<◌, ◌≤◌, ◌==◌, if◌then◌else◌, List, length, slice_index}
use Rattle.std.specs.Int.{bit_at}

-- the i-th bit
abbrev pub bit_of : List ℕ → ℕ → ℕ
bit_of blocks i = bit_at (slice_index blocks (i / 64)) (i % 64)

-- no bit is set, from this bit on
abbrev pub NoneFrom : List ℕ → ℕ → Type 0
NoneFrom blocks from = (i : ℕ) → from ≤ i → i < 64 * length blocks → bit_of blocks i ≡ 0

-- the first bit that is set, from this bit on
pub record IsNext (blocks : List ℕ) (from next : ℕ) : Type 0 where
  pub low : from ≤ next
  pub within : next < 64 * length blocks
  pub set : bit_of blocks next ≡ 1
  pub before : (i : ℕ) → from ≤ i → i < next → bit_of blocks i ≡ 0

-- a bit for each block, set if the block has a bit that is set
pub record IsSummary (blocks summary : List ℕ) : Type 0 where
  pub room : length blocks ≤ 64 * length summary
  pub bits : (i : ℕ) → i < 64 * length summary → bit_of summary i ≡ (if slice_index blocks i == 0 then 0 else 1)
