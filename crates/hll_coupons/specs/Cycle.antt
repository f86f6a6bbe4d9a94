-- SPDX-License-Identifier: Apache-2.0
-- The cycle of a stride: the buckets of a table in the order of steps from bucket 0, and a bitmap of those that are empty.
use Rattle.std.specs.Prelude.{◌≡◌, ℕ, ◌+◌, ◌*◌, ◌%◌, ◌^◌, ◌≢◌, ◌<◌, ◌≤◌, ◌==◌, if◌then◌else◌, List, length, slice_index, slice_index_or, slice_set}
use Rattle.hll_coupons.specs.Probe.{stride_of, IsAbsent, EndsAt}
use Rattle.hll_coupons.specs.Blocks.{bit_of, IsSummary}
use Rattle.hll_coupons.specs.declared.cycle.Cycle.{Cycle}

-- times the number this is 1 modulo 2^lg
abbrev pub IsInverse : ℕ → ℕ → ℕ → Type 0
IsInverse lg number inverse = number * inverse % 2 ^ lg ≡ 1 % 2 ^ lg

-- the bucket after n steps from bucket 0
abbrev pub bucket_after : ℕ → ℕ → ℕ → ℕ
bucket_after lg stride steps = steps * stride % 2 ^ lg

-- bit i is set if the i-th bucket of the cycle is empty
pub record IsEmptyMap (lg stride : ℕ) (buckets blocks : List ℕ) : Type 0 where
  pub size : 64 * length blocks ≡ 2 ^ lg
  pub bits : (i : ℕ) → i < 2 ^ lg → bit_of blocks i ≡ (if slice_index buckets (bucket_after lg stride i) == 0 then 1 else 0)

-- the first bit that is set, from this bit on, wrapping around at the end
pub record IsNextRound (lg : ℕ) (blocks : List ℕ) (from next : ℕ) : Type 0 where
  pub steps : ℕ
  pub within : steps < 2 ^ lg
  pub at : (from + steps) % 2 ^ lg ≡ next
  pub set : bit_of blocks next ≡ 1
  pub before : (j : ℕ) → j < steps → bit_of blocks ((from + j) % 2 ^ lg) ≡ 0

-- what always holds for a cycle, whatever the buckets are
pub record IsSound {A : Type 0} (cycle : Cycle A) : Type 0 where
  pub least : 6 ≤ cycle.lg_size
  pub small : cycle.lg_size ≤ 26
  pub odd : cycle.stride % 2 ≡ 1
  pub inverse : IsInverse cycle.lg_size cycle.stride cycle.inverse
  pub inverse_small : cycle.inverse < 2 ^ 32
  pub stride_small : cycle.stride < 2 ^ 26
  pub size : 64 * length cycle.empty.items ≡ 2 ^ cycle.lg_size
  pub summary : IsSummary cycle.empty.items cycle.summary.items
  pub summary_small : 64 * length cycle.summary.items < 2 ^ 26

-- the cycle shows which of these buckets are empty
abbrev pub Shows : {A : Type 0} → Cycle A → List ℕ → Type 0
Shows cycle buckets = IsEmptyMap cycle.lg_size cycle.stride buckets cycle.empty.items

-- where a search for any absent key of this stride ends
abbrev pub EndsForAbsent : {A : Type 0} → Cycle A → ℕ → ℕ → Type 0
EndsForAbsent cycle key bucket = (key_of : ℕ → ℕ) (buckets : List ℕ) → length buckets ≡ 2 ^ cycle.lg_size → Shows cycle buckets →
    cycle.stride ≡ stride_of cycle.lg_size key → IsAbsent key_of buckets key → EndsAt key_of cycle.lg_size buckets key bucket

-- if the old cycle shows some buckets, the new cycle shows them after this bucket is filled
abbrev pub Fills : {A : Type 0} → Cycle A → ℕ → Cycle A → Type 0
Fills old bucket new = (buckets : List ℕ) (entry : ℕ) → length buckets ≡ 2 ^ old.lg_size → entry ≢ 0 → Shows old buckets → Shows new (slice_set buckets bucket entry)

-- a cycle through these buckets
pub record IsFor {A : Type 0} (lg : ℕ) (buckets : List ℕ) (cycle : Cycle A) : Type 0 where
  pub sound : IsSound cycle
  pub size : cycle.lg_size ≡ lg
  pub shows : Shows cycle buckets

-- a cycle after a bucket was filled
pub record IsFilled {A : Type 0} (old : Cycle A) (bucket : ℕ) (new : Cycle A) : Type 0 where
  pub sound : IsSound new
  pub size : new.lg_size ≡ old.lg_size
  pub fills : Fills old bucket new

-- each of the cycles after a bucket was filled
pub record AreFilled {A : Type 0} (old : List (Cycle A)) (bucket : ℕ) (new : List (Cycle A)) : Type 0 where
  pub count : length new ≡ length old
  pub each : (i : ℕ) (c : Cycle A) → i < length old → IsFilled (slice_index_or old i c) bucket (slice_index_or new i c)
