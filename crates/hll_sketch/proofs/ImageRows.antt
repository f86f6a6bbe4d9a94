-- SPDX-License-Identifier: Apache-2.0
-- Examples of images: their sketches, what is written for sketches, and a fault of each kind.
use Rattle.std.proofs.Common.{◌≡◌, ℕ, false, List, [], ◌∷◌, length, drop, Some, None, refl, arith}
use Rattle.std.specs.Prelude.{replicate}
use Rattle.std.specs.FinSet.{len-empty}
use Rattle.std.specs.Ordering.{nat_cmp}
use Rattle.hll_base.specs.declared.error.Reason.TheVariants.{Family, LgArr, Count, Register}
use Rattle.hll_coupons.specs.Pair.{pair}
use Rattle.hll_coupons.specs.Payload.{list_coupons, set_count, set_coupons}
use Rattle.hll_registers.specs.declared.estimate_state.EstimateState.{EstimateState}
use Rattle.hll_registers.specs.State.{cleared_state}
use Rattle.hll_registers.specs.Payload.{registers_of, hll4_bytes, hll6_bytes}
use Rattle.hll_registers.specs.Payload as payload
use Rattle.hll_sketch.specs.Image.{list_shape, set_shape, hll4_shape}
use Rattle.hll_sketch.specs.Checks.{first_fault}
use Rattle.hll_sketch.specs.Fault.{IsFault, set_table, hll8_payload, hll4_payload}

-- ---- the sketches of images

-- a list in eight buckets, with gaps between slot 7 with value 2 and slot 5 with value 1
abbrev list_with_gaps : List ℕ
list_with_gaps = 2 ∷ 1 ∷ 7 ∷ 10 ∷ 3 ∷ 0 ∷ 2 ∷ 8 ∷ 0 ∷ 0 ∷ 0 ∷ 0 ∷ 7 ∷ 0 ∷ 0 ∷ 8 ∷ 0 ∷ 0 ∷ 0 ∷ 0 ∷ 0 ∷ 0 ∷ 0 ∷ 0 ∷ 5 ∷ 0 ∷ 0 ∷ 4 ∷ 0 ∷ 0 ∷ 0 ∷ 0 ∷ 0 ∷ 0 ∷ 0 ∷ 0 ∷ 0 ∷ 0 ∷ 0 ∷ 0 ∷ []

pub coupons-list_with_gaps : list_coupons (list_shape list_with_gaps) (drop 8 list_with_gaps) ≡ pair 7 2 ∷ pair 5 1 ∷ []
coupons-list_with_gaps = refl

-- a set in 32 buckets, of which the first has slot 5 and value 3
abbrev set_in_buckets : List ℕ
set_in_buckets = 3 ∷ 1 ∷ 7 ∷ 8 ∷ 5 ∷ 0 ∷ 0 ∷ 9 ∷ 1 ∷ 0 ∷ 0 ∷ 0 ∷ 5 ∷ 0 ∷ 0 ∷ 12 ∷ replicate 124 0

pub coupons-set_in_buckets : set_coupons (set_shape set_in_buckets) (drop 8 set_in_buckets) ≡ pair 5 3 ∷ []
coupons-set_in_buckets = refl

pub count-set_in_buckets : length (set_coupons (set_shape set_in_buckets) (drop 8 set_in_buckets)) ≡ set_count (drop 8 set_in_buckets)
count-set_in_buckets = refl

-- 4-bit registers, with the one exception in a table of four buckets
abbrev four_with_table : List ℕ
four_with_table = 10 ∷ 1 ∷ 7 ∷ 4 ∷ 2 ∷ 0 ∷ 0 ∷ 2 ∷ 0 ∷ 0 ∷ 0 ∷ 0 ∷ 0 ∷ 0 ∷ 0 ∷ 0 ∷ 0 ∷ 0 ∷ 0 ∷ 0 ∷ 0 ∷ 0 ∷ 0 ∷ 0 ∷ 0 ∷ 0 ∷ 0 ∷ 0 ∷ 0 ∷ 0 ∷ 0 ∷ 0 ∷ 15 ∷ 0 ∷ 0 ∷ 0 ∷ 1 ∷ 0 ∷ 0 ∷ 0 ∷ 15 ∷ 0 ∷ 0 ∷ 0 ∷ 0 ∷ 0 ∷ 0 ∷ 0 ∷ 0 ∷ 0 ∷ 0 ∷ 0 ∷ 0 ∷ 0 ∷ 0 ∷ 0 ∷ 0 ∷ 0 ∷ 0 ∷ 80 ∷ 0 ∷ 0 ∷ 0 ∷ 0 ∷ []

pub registers-four_with_table : registers_of (hll4_shape four_with_table) (drop 8 four_with_table) ≡ 20 ∷ replicate 15 0
registers-four_with_table = refl

-- 4-bit registers, with a minimum of 0 although every register is 1
abbrev four_low_minimum : List ℕ
four_low_minimum = 10 ∷ 1 ∷ 7 ∷ 4 ∷ 0 ∷ 8 ∷ 0 ∷ 2 ∷ 0 ∷ 0 ∷ 0 ∷ 0 ∷ 0 ∷ 0 ∷ 0 ∷ 0 ∷ 0 ∷ 0 ∷ 0 ∷ 0 ∷ 0 ∷ 0 ∷ 0 ∷ 0 ∷ 0 ∷ 0 ∷ 0 ∷ 0 ∷ 0 ∷ 0 ∷ 0 ∷ 0 ∷ 16 ∷ 0 ∷ 0 ∷ 0 ∷ 0 ∷ 0 ∷ 0 ∷ 0 ∷ 17 ∷ 17 ∷ 17 ∷ 17 ∷ 17 ∷ 17 ∷ 17 ∷ 17 ∷ []

pub registers-four_low_minimum : registers_of (hll4_shape four_low_minimum) (drop 8 four_low_minimum) ≡ replicate 16 1
registers-four_low_minimum = refl

-- 4-bit registers, with a minimum of 63
abbrev four_all_63 : List ℕ
four_all_63 = 10 ∷ 1 ∷ 7 ∷ 4 ∷ 0 ∷ 8 ∷ 63 ∷ 2 ∷ 0 ∷ 0 ∷ 0 ∷ 0 ∷ 0 ∷ 0 ∷ 0 ∷ 0 ∷ 0 ∷ 0 ∷ 0 ∷ 0 ∷ 0 ∷ 0 ∷ 0 ∷ 0 ∷ 0 ∷ 0 ∷ 0 ∷ 0 ∷ 0 ∷ 0 ∷ 0 ∷ 0 ∷ 16 ∷ 0 ∷ 0 ∷ 0 ∷ 0 ∷ 0 ∷ 0 ∷ 0 ∷ 0 ∷ 0 ∷ 0 ∷ 0 ∷ 0 ∷ 0 ∷ 0 ∷ 0 ∷ []

pub registers-four_all_63 : registers_of (hll4_shape four_all_63) (drop 8 four_all_63) ≡ replicate 16 63
registers-four_all_63 = refl

-- ---- what is written

-- three fields of 0 with the flag unset
abbrev plain_state : EstimateState
plain_state = record { words = 0 ∷ 0 ∷ 0 ∷ []; out_of_order = false }

-- one register 14 above the minimum of 1: no exception
pub written-nibble_14 : hll4_bytes 4 (15 ∷ replicate 15 1) cleared_state [] ≡
    10 ∷ 1 ∷ 7 ∷ 4 ∷ 0 ∷ 24 ∷ 1 ∷ 2 ∷ 0 ∷ 0 ∷ 0 ∷ 0 ∷ 0 ∷ 0 ∷ 0 ∷ 0 ∷ 0 ∷ 0 ∷ 0 ∷ 0 ∷ 0 ∷ 0 ∷ 0 ∷ 0 ∷ 0 ∷ 0 ∷ 0 ∷ 0 ∷ 0 ∷ 0 ∷ 0 ∷ 0 ∷ 15 ∷ 0 ∷ 0 ∷ 0 ∷ 0 ∷ 0 ∷ 0 ∷ 0 ∷ 14 ∷ 0 ∷ 0 ∷ 0 ∷ 0 ∷ 0 ∷ 0 ∷ 0 ∷ []
written-nibble_14 = refl

-- 6-bit registers, four in three bytes
pub written-fields : hll6_bytes 4 (0 ∷ 63 ∷ 42 ∷ 51 ∷ replicate 12 0) cleared_state ≡
    10 ∷ 1 ∷ 7 ∷ 4 ∷ 0 ∷ 16 ∷ 0 ∷ 6 ∷ 0 ∷ 0 ∷ 0 ∷ 0 ∷ 0 ∷ 0 ∷ 0 ∷ 0 ∷ 0 ∷ 0 ∷ 0 ∷ 0 ∷ 0 ∷ 0 ∷ 0 ∷ 0 ∷ 0 ∷ 0 ∷ 0 ∷ 0 ∷ 0 ∷ 0 ∷ 0 ∷ 0 ∷ 13 ∷ 0 ∷ 0 ∷ 0 ∷ 0 ∷ 0 ∷ 0 ∷ 0 ∷ 192 ∷ 175 ∷ 206 ∷ 0 ∷ 0 ∷ 0 ∷ 0 ∷ 0 ∷ 0 ∷ 0 ∷ 0 ∷ 0 ∷ 0 ∷ []
written-fields = refl

-- every register is 1: so is the minimum
pub written-raised_minimum : hll4_bytes 4 (replicate 16 1) plain_state [] ≡
    10 ∷ 1 ∷ 7 ∷ 4 ∷ 0 ∷ 8 ∷ 1 ∷ 2 ∷ 0 ∷ 0 ∷ 0 ∷ 0 ∷ 0 ∷ 0 ∷ 0 ∷ 0 ∷ 0 ∷ 0 ∷ 0 ∷ 0 ∷ 0 ∷ 0 ∷ 0 ∷ 0 ∷ 0 ∷ 0 ∷ 0 ∷ 0 ∷ 0 ∷ 0 ∷ 0 ∷ 0 ∷ 16 ∷ 0 ∷ 0 ∷ 0 ∷ 0 ∷ 0 ∷ 0 ∷ 0 ∷ 0 ∷ 0 ∷ 0 ∷ 0 ∷ 0 ∷ 0 ∷ 0 ∷ 0 ∷ []
written-raised_minimum = refl

-- one exception
pub written-exception : hll4_bytes 4 (20 ∷ 1 ∷ 1 ∷ 1 ∷ 1 ∷ 1 ∷ 1 ∷ 1 ∷ replicate 8 0) cleared_state (pair 0 20 ∷ []) ≡
    10 ∷ 1 ∷ 7 ∷ 4 ∷ 0 ∷ 24 ∷ 0 ∷ 2 ∷ 0 ∷ 0 ∷ 0 ∷ 0 ∷ 0 ∷ 0 ∷ 0 ∷ 0 ∷ 0 ∷ 0 ∷ 0 ∷ 0 ∷ 0 ∷ 0 ∷ 0 ∷ 0 ∷ 0 ∷ 0 ∷ 0 ∷ 0 ∷ 0 ∷ 0 ∷ 0 ∷ 0 ∷ 8 ∷ 0 ∷ 0 ∷ 0 ∷ 1 ∷ 0 ∷ 0 ∷ 0 ∷ 31 ∷ 17 ∷ 17 ∷ 17 ∷ 0 ∷ 0 ∷ 0 ∷ 0 ∷ 0 ∷ 0 ∷ 0 ∷ 80 ∷ []
written-exception = refl

-- ---- faults

-- 4-bit registers with an exception, in a table of 2^27 buckets
abbrev table_of_27 : List ℕ
table_of_27 = 10 ∷ 1 ∷ 7 ∷ 4 ∷ 27 ∷ 0 ∷ 0 ∷ 2 ∷ 0 ∷ 0 ∷ 0 ∷ 0 ∷ 0 ∷ 0 ∷ 0 ∷ 0 ∷ 0 ∷ 0 ∷ 0 ∷ 0 ∷ 0 ∷ 0 ∷ 0 ∷ 0 ∷ 0 ∷ 0 ∷ 0 ∷ 0 ∷ 0 ∷ 0 ∷ 0 ∷ 0 ∷ 15 ∷ 0 ∷ 0 ∷ 0 ∷ 1 ∷ 0 ∷ 0 ∷ 0 ∷ []

pub fault-table_of_27 : IsFault table_of_27 LgArr
fault-table_of_27 = hll4_payload (omega arith) refl refl (record { low = omega arith; high = omega arith }) (payload.table (omega arith) (omega arith) refl (λ e. cc) (omega arith))

-- a nibble of 15 without its exception
abbrev no_exception : List ℕ
no_exception = 10 ∷ 1 ∷ 7 ∷ 4 ∷ 0 ∷ 8 ∷ 0 ∷ 2 ∷ 0 ∷ 0 ∷ 0 ∷ 0 ∷ 0 ∷ 0 ∷ 0 ∷ 0 ∷ 0 ∷ 0 ∷ 0 ∷ 0 ∷ 0 ∷ 0 ∷ 0 ∷ 0 ∷ 0 ∷ 0 ∷ 0 ∷ 0 ∷ 0 ∷ 0 ∷ 0 ∷ 0 ∷ 16 ∷ 0 ∷ 0 ∷ 0 ∷ 0 ∷ 0 ∷ 0 ∷ 0 ∷ 15 ∷ 0 ∷ 0 ∷ 0 ∷ 0 ∷ 0 ∷ 0 ∷ 0 ∷ []

pub fault-no_exception : IsFault no_exception Register
fault-no_exception = hll4_payload (omega arith) refl refl (record { low = omega arith; high = omega arith })
    (payload.register (record { whole = omega arith; few = omega arith; table = λ c n. absurd (n refl) }) (omega arith)
    (record { valued = λ i d l. absurd (omega (arith, l)); distinct = len-empty nat_cmp }) refl (λ agree. omega (arith, (agree 0 (omega arith)).0)))

-- a set in 64 buckets, at an lg_k of 8
abbrev set_of_size_6 : List ℕ
set_of_size_6 = 3 ∷ 1 ∷ 7 ∷ 8 ∷ 6 ∷ 8 ∷ 0 ∷ 9 ∷ 0 ∷ 0 ∷ 0 ∷ 0 ∷ []

pub fault-set_of_size_6 : IsFault set_of_size_6 LgArr
fault-set_of_size_6 = set_table (omega arith) refl (record { low = omega arith; high = omega arith }) (λ t. omega (arith, t.high))

-- a count of zeros above the number of registers
abbrev zeros_above : List ℕ
zeros_above = 10 ∷ 1 ∷ 7 ∷ 4 ∷ 0 ∷ 0 ∷ 0 ∷ 10 ∷ 0 ∷ 0 ∷ 0 ∷ 0 ∷ 0 ∷ 0 ∷ 0 ∷ 0 ∷ 0 ∷ 0 ∷ 0 ∷ 0 ∷ 0 ∷ 0 ∷ 0 ∷ 0 ∷ 0 ∷ 0 ∷ 0 ∷ 0 ∷ 0 ∷ 0 ∷ 0 ∷ 0 ∷ 17 ∷ 0 ∷ 0 ∷ 0 ∷ 0 ∷ 0 ∷ 0 ∷ 0 ∷ 0 ∷ 0 ∷ 0 ∷ 0 ∷ 0 ∷ 0 ∷ 0 ∷ 0 ∷ 0 ∷ 0 ∷ 0 ∷ 0 ∷ 0 ∷ 0 ∷ 0 ∷ 0 ∷ []

pub fault-zeros_above : IsFault zeros_above Count
fault-zeros_above = hll8_payload (omega arith) refl refl (record { low = omega arith; high = omega arith }) (payload.zero_count (omega arith) (omega arith))

-- ---- first faults

-- another version, and another family
abbrev two_faults : List ℕ
two_faults = 2 ∷ 2 ∷ 8 ∷ 10 ∷ 3 ∷ 12 ∷ 0 ∷ 8 ∷ []

pub first-two_faults : first_fault two_faults ≡ Some Family
first-two_faults = refl

-- a set in 64 buckets, at an lg_k of 8, that ends before its count
abbrev short_set_of_size_6 : List ℕ
short_set_of_size_6 = 3 ∷ 1 ∷ 7 ∷ 8 ∷ 6 ∷ 8 ∷ 0 ∷ 9 ∷ []

pub first-short_set_of_size_6 : first_fault short_set_of_size_6 ≡ Some LgArr
first-short_set_of_size_6 = refl

pub first-zeros_above : first_fault zeros_above ≡ Some Count
first-zeros_above = refl

-- what is written for sixteen 6-bit registers of 0 has no fault
pub first-six_zeros : first_fault (hll6_bytes 4 (replicate 16 0) cleared_state) ≡ None
first-six_zeros = refl
