-- SPDX-License-Identifier: Apache-2.0
-- What follows the header in an image of registers, what can be wrong with it, and what is written
-- (docs/FORMAT.md, "HLL" and "What is written"; docs/MODEL.md, "Images").
use Rattle.std.specs.Prelude.{◌≡◌, ◌≢◌, ℕ, ◌+◌, ◌-◌, ◌*◌, ◌/◌, ◌%◌, ◌^◌, ◌≤◌, ◌<◌, ◌==◌, Bool, true, false, if◌then◌else◌, List, [], ◌∷◌, ◌++◌, length, drop, take, map, slice_index, All, Option, Some, None}
use Rattle.std.specs.List.{range_with_len, flat_map}
use Rattle.std.specs.Int.{w32, w64, to_le_bytes, from_le_bytes}
use Rattle.std.specs.FinSet.{len}
use Rattle.hll_base.specs.declared.error.Reason.{Reason}
use Rattle.hll_base.specs.declared.error.Reason.TheVariants.{Truncated, LgArr, Count, Coupon, Register}
use Rattle.hll_coupons.specs.AuxMap.{entry_at}
use Rattle.hll_coupons.specs.Pair.{slot_of, value_of, set_of}
use Rattle.hll_coupons.specs.Coupons.{coupons_at, coupon_bytes, mode_byte, WritesAscending}
use Rattle.hll_base.specs.declared.hll_type.HllType.{HllType}
use Rattle.hll_base.specs.declared.hll_type.HllType.TheVariants.{Hll4, Hll6, Hll8}
use Rattle.hll_registers.specs.declared.aux_format.AuxFormat.{AuxFormat}
use Rattle.hll_registers.specs.declared.aux_format.AuxFormat.TheVariants.{Compact, Updatable}
use Rattle.hll_registers.specs.declared.estimate_state.EstimateState.{EstimateState}
use Rattle.hll_kernels.specs.Packed.{field_bytes, nibble_at, nibble_bytes, minimum, count_at_minimum, zeros}
use Rattle.hll_registers.specs.Exceptions.{exceptions}

-- ---- the numbers before the registers, 32 bytes

-- three raw fields, and the flag that the header gives
abbrev pub state_at : Bool → List ℕ → EstimateState
state_at out_of_order bytes = record {
  words = from_le_bytes w64 bytes ∷ from_le_bytes w64 (drop 8 bytes) ∷ from_le_bytes w64 (drop 16 bytes) ∷ [];
  out_of_order = out_of_order;
}

-- the count of zeros; for 4-bit registers, of registers at the minimum
abbrev pub num_at_cur_min : List ℕ → ℕ
num_at_cur_min bytes = from_le_bytes w32 (drop 24 bytes)

abbrev pub exception_count : List ℕ → ℕ
exception_count bytes = from_le_bytes w32 (drop 28 bytes)

-- ---- 8-bit registers

pub record IsHll8Payload (k : ℕ) (bytes : List ℕ) : Type 0 where
  pub zero_count : num_at_cur_min bytes ≤ 2 ^ k
  pub no_exceptions : exception_count bytes ≡ 0
  pub size : length bytes ≡ 32 + 2 ^ k
  pub small : All (λ v. v ≤ 63) (drop 32 bytes)

-- a check fails with this reason, and the bytes that it reads are there
pub data Hll8Fault (k : ℕ) (bytes : List ℕ) : Reason → Type 0 where
  no_counts : length bytes < 32 → Hll8Fault k bytes Truncated
  zero_count : 32 ≤ length bytes → 2 ^ k < num_at_cur_min bytes → Hll8Fault k bytes Count
  exceptions_counted : 32 ≤ length bytes → exception_count bytes ≢ 0 → Hll8Fault k bytes Count
  short : length bytes < 32 + 2 ^ k → Hll8Fault k bytes Truncated
  register : 32 + 2 ^ k ≤ length bytes → (All (λ v. v ≤ 63) (take (2 ^ k) (drop 32 bytes)) → ⊥) → Hll8Fault k bytes Register

-- the counts of 8-bit or 6-bit registers pass their checks
pub record HasPlainCounts (k : ℕ) (bytes : List ℕ) : Type 0 where
  pub whole : 32 ≤ length bytes
  pub zero_count : num_at_cur_min bytes ≤ 2 ^ k
  pub no_exceptions : exception_count bytes ≡ 0

-- the check with this reason is the first that fails
pub data FirstHll8Fault (k : ℕ) (bytes : List ℕ) : Reason → Type 0 where
  no_counts : length bytes < 32 → FirstHll8Fault k bytes Truncated
  zero_count : 32 ≤ length bytes → 2 ^ k < num_at_cur_min bytes → FirstHll8Fault k bytes Count
  exceptions_counted : 32 ≤ length bytes → exception_count bytes ≢ 0 → FirstHll8Fault k bytes Count
  short : HasPlainCounts k bytes → length bytes < 32 + 2 ^ k → FirstHll8Fault k bytes Truncated
  register : HasPlainCounts k bytes → 32 + 2 ^ k ≤ length bytes → (All (λ v. v ≤ 63) (take (2 ^ k) (drop 32 bytes)) → ⊥) → FirstHll8Fault k bytes Register

-- ---- 6-bit registers

-- the number of bytes of the packed registers, and one more byte that holds none
abbrev pub field_size : ℕ → ℕ
field_size k = 3 * 2 ^ k / 4 + 1

pub record IsHll6Payload (k : ℕ) (bytes : List ℕ) : Type 0 where
  pub zero_count : num_at_cur_min bytes ≤ 2 ^ k
  pub no_exceptions : exception_count bytes ≡ 0
  pub size : length bytes ≡ 32 + field_size k

-- a check fails with this reason, and the bytes that it reads are there
pub data Hll6Fault (k : ℕ) (bytes : List ℕ) : Reason → Type 0 where
  no_counts : length bytes < 32 → Hll6Fault k bytes Truncated
  zero_count : 32 ≤ length bytes → 2 ^ k < num_at_cur_min bytes → Hll6Fault k bytes Count
  exceptions_counted : 32 ≤ length bytes → exception_count bytes ≢ 0 → Hll6Fault k bytes Count
  short : length bytes < 32 + field_size k → Hll6Fault k bytes Truncated

-- the check with this reason is the first that fails
pub data FirstHll6Fault (k : ℕ) (bytes : List ℕ) : Reason → Type 0 where
  no_counts : length bytes < 32 → FirstHll6Fault k bytes Truncated
  zero_count : 32 ≤ length bytes → 2 ^ k < num_at_cur_min bytes → FirstHll6Fault k bytes Count
  exceptions_counted : 32 ≤ length bytes → exception_count bytes ≢ 0 → FirstHll6Fault k bytes Count
  short : HasPlainCounts k bytes → length bytes < 32 + field_size k → FirstHll6Fault k bytes Truncated

-- ---- 4-bit registers

-- what the header says about 4-bit registers; the minimum is the state byte
pub record Hll4Shape : Type 0 where
  pub lg_k : ℕ
  pub minimum : ℕ
  pub compact : Bool
  pub lg_table : ℕ

-- the exceptions are stored without empty buckets between them
abbrev pub is_compact : AuxFormat → Bool
is_compact Compact = true
is_compact (Updatable lg_arr) = false

abbrev pub lg_table_of : AuxFormat → ℕ
lg_table_of Compact = 0
lg_table_of (Updatable lg_arr) = lg_arr

-- the shape of 4-bit registers, by lg_k, the minimum in the header and the format of the exceptions
abbrev pub shape_of_hll4 : ℕ → ℕ → AuxFormat → Hll4Shape
shape_of_hll4 k m format = record { lg_k = k; minimum = m; compact = is_compact format; lg_table = lg_table_of format }

abbrev pub exception_buckets : Hll4Shape → List ℕ → ℕ
exception_buckets h bytes =
    if h.compact then exception_count bytes else (if exception_count bytes == 0 then 0 else 2 ^ h.lg_table)

-- the bytes of the nibbles
abbrev pub nibbles_of : Hll4Shape → List ℕ → List ℕ
nibbles_of h bytes = take (2 ^ (h.lg_k - 1)) (drop 32 bytes)

-- the exceptions, in their order
abbrev pub entries_of : Hll4Shape → List ℕ → List ℕ
entries_of h bytes = coupons_at h.compact (exception_buckets h bytes) (drop (32 + 2 ^ (h.lg_k - 1)) bytes)

-- the number of bytes in all
abbrev pub hll4_size : Hll4Shape → List ℕ → ℕ
hll4_size h bytes = 32 + (2 ^ (h.lg_k - 1) + 4 * exception_buckets h bytes)

-- a nibble of 15 has an entry at least 15 above the minimum, and any other nibble has none
abbrev pub Agrees : ℕ → ℕ → Option ℕ → Type 0
Agrees m n None = (n < 15) × (m + n ≤ 63)
Agrees m n (Some v) = (n ≡ 15) × (m + 15 ≤ v)

-- the register of a nibble and an entry
abbrev pub register_of : ℕ → ℕ → Option ℕ → ℕ
register_of m n None = m + n
register_of m n (Some v) = v

-- the registers of an image of 4-bit registers
abbrev pub registers_of : Hll4Shape → List ℕ → List ℕ
registers_of h bytes =
    map (λ s. register_of h.minimum (nibble_at (nibbles_of h bytes) s) (entry_at h.lg_k (entries_of h bytes) s)) (range_with_len 0 (2 ^ h.lg_k))

-- the counts that determine where the entries are pass their checks
pub record HasEntries (h : Hll4Shape) (bytes : List ℕ) : Type 0 where
  pub whole : 32 ≤ length bytes
  pub few : exception_count bytes ≤ 2 ^ h.lg_k
  pub table : h.compact ≡ false → exception_count bytes ≢ 0 → h.lg_table ≤ 26

-- each entry has a value, and no slot occurs twice
pub record AreEntries (k : ℕ) (entries : List ℕ) : Type 0 where
  pub valued : All (λ c. 1 ≤ value_of c) entries
  pub distinct : len (set_of (map (λ c. slot_of c % 2 ^ k) entries)) ≡ length entries

-- nibbles and entries agree at each slot
abbrev pub AllAgree : Hll4Shape → List ℕ → Type 0
AllAgree h bytes = (s : ℕ) → s < 2 ^ h.lg_k → Agrees h.minimum (nibble_at (nibbles_of h bytes) s) (entry_at h.lg_k (entries_of h bytes) s)

pub record IsHll4Payload (h : Hll4Shape) (bytes : List ℕ) : Type 0 where
  pub low : num_at_cur_min bytes ≤ 2 ^ h.lg_k
  pub has_entries : HasEntries h bytes
  pub size : length bytes ≡ hll4_size h bytes
  pub are_entries : AreEntries h.lg_k (entries_of h bytes)
  pub number : length (entries_of h bytes) ≡ exception_count bytes
  pub agree : AllAgree h bytes

-- a check fails with this reason, and the bytes that it reads are there
pub data Hll4Fault (h : Hll4Shape) (bytes : List ℕ) : Reason → Type 0 where
  no_counts : length bytes < 32 → Hll4Fault h bytes Truncated
  low_count_above : 32 ≤ length bytes → 2 ^ h.lg_k < num_at_cur_min bytes → Hll4Fault h bytes Count
  exceptions_above : 32 ≤ length bytes → 2 ^ h.lg_k < exception_count bytes → Hll4Fault h bytes Count
  table : 32 ≤ length bytes → exception_count bytes ≤ 2 ^ h.lg_k → h.compact ≡ false → exception_count bytes ≢ 0 → 26 < h.lg_table → Hll4Fault h bytes LgArr
  short : HasEntries h bytes → length bytes < hll4_size h bytes → Hll4Fault h bytes Truncated
  coupon : HasEntries h bytes → hll4_size h bytes ≤ length bytes → (AreEntries h.lg_k (entries_of h bytes) → ⊥) → Hll4Fault h bytes Coupon
  number : HasEntries h bytes → hll4_size h bytes ≤ length bytes → length (entries_of h bytes) ≢ exception_count bytes → Hll4Fault h bytes Count
  register : HasEntries h bytes → hll4_size h bytes ≤ length bytes → AreEntries h.lg_k (entries_of h bytes) → length (entries_of h bytes) ≡ exception_count bytes
      → (AllAgree h bytes → ⊥) → Hll4Fault h bytes Register

-- the counts pass their checks, and all bytes that they need are there
pub record IsWhole (h : Hll4Shape) (bytes : List ℕ) : Type 0 where
  pub low : num_at_cur_min bytes ≤ 2 ^ h.lg_k
  pub has_entries : HasEntries h bytes
  pub there : hll4_size h bytes ≤ length bytes

-- the check with this reason is the first that fails
pub data FirstHll4Fault (h : Hll4Shape) (bytes : List ℕ) : Reason → Type 0 where
  no_counts : length bytes < 32 → FirstHll4Fault h bytes Truncated
  low_count_above : 32 ≤ length bytes → 2 ^ h.lg_k < num_at_cur_min bytes → FirstHll4Fault h bytes Count
  exceptions_above : 32 ≤ length bytes → 2 ^ h.lg_k < exception_count bytes → FirstHll4Fault h bytes Count
  table : 32 ≤ length bytes → num_at_cur_min bytes ≤ 2 ^ h.lg_k → exception_count bytes ≤ 2 ^ h.lg_k → h.compact ≡ false → exception_count bytes ≢ 0 → 26 < h.lg_table
      → FirstHll4Fault h bytes LgArr
  short : num_at_cur_min bytes ≤ 2 ^ h.lg_k → HasEntries h bytes → length bytes < hll4_size h bytes → FirstHll4Fault h bytes Truncated
  coupon : IsWhole h bytes → (AreEntries h.lg_k (entries_of h bytes) → ⊥) → FirstHll4Fault h bytes Coupon
  number : IsWhole h bytes → AreEntries h.lg_k (entries_of h bytes) → length (entries_of h bytes) ≢ exception_count bytes → FirstHll4Fault h bytes Count
  register : IsWhole h bytes → AreEntries h.lg_k (entries_of h bytes) → length (entries_of h bytes) ≡ exception_count bytes → (AllAgree h bytes → ⊥)
      → FirstHll4Fault h bytes Register

-- ---- what is written

-- the bit of the flag in the flags byte
abbrev pub flag_of : EstimateState → ℕ
flag_of state = if state.out_of_order then 16 else 0

-- the estimator fields, and two counts
abbrev pub number_bytes : EstimateState → ℕ → ℕ → List ℕ
number_bytes state low excepted = flat_map (to_le_bytes w64) state.words ++ to_le_bytes w32 low ++ to_le_bytes w32 excepted

abbrev pub hll8_bytes : ℕ → List ℕ → EstimateState → List ℕ
hll8_bytes k R state = 10 ∷ 1 ∷ 7 ∷ k ∷ 0 ∷ flag_of state ∷ 0 ∷ mode_byte 2 Hll8 ∷ number_bytes state (zeros R) 0 ++ R

abbrev pub hll6_bytes : ℕ → List ℕ → EstimateState → List ℕ
hll6_bytes k R state = 10 ∷ 1 ∷ 7 ∷ k ∷ 0 ∷ flag_of state ∷ 0 ∷ mode_byte 2 Hll6 ∷ number_bytes state (zeros R) 0 ++ field_bytes R

abbrev pub hll4_bytes : ℕ → List ℕ → EstimateState → List ℕ → List ℕ
hll4_bytes k R state order =
    10 ∷ 1 ∷ 7 ∷ k ∷ 0 ∷ (8 + flag_of state) ∷ minimum R ∷ mode_byte 2 Hll4
    ∷ number_bytes state (count_at_minimum R) (length order) ++ (nibble_bytes R ++ coupon_bytes order)

-- an image of 4-bit registers: nibbles above a minimum, of which some number are 0, and the bytes of exceptions
abbrev pub nibble_image : ℕ → ℕ → ℕ → List ℕ → List ℕ → EstimateState → List ℕ
nibble_image k m low nibbles entries state =
    10 ∷ 1 ∷ 7 ∷ k ∷ 0 ∷ (8 + flag_of state) ∷ m ∷ mode_byte 2 Hll4
    ∷ number_bytes state low (length entries / 4) ++ (nibbles ++ entries)

-- the bytes are written for these registers; for 4-bit registers with the exceptions in ascending order
abbrev pub WritesRegisters : List ℕ → ℕ → HllType → List ℕ → EstimateState → Type 0
WritesRegisters bytes k Hll4 R state = WritesAscending (hll4_bytes k R state) (set_of (exceptions R)) bytes
WritesRegisters bytes k Hll6 R state = bytes ≡ hll6_bytes k R state
WritesRegisters bytes k Hll8 R state = bytes ≡ hll8_bytes k R state

-- ---- laws

-- nibbles and exceptions give each register back, whatever the order of the exceptions
abbrev pub ExceptionsReadBack : Type 0
ExceptionsReadBack = (k : ℕ) (R order : List ℕ) (s : ℕ) → k ≤ 21 → length R ≡ 2 ^ k → All (λ v. v ≤ 63) R →
    set_of order ≡ set_of (exceptions R) → s < 2 ^ k →
    let m = minimum R in let n = nibble_at (nibble_bytes R) s in let v = entry_at k order s in
    Agrees m n v × (register_of m n v ≡ slice_index R s)
