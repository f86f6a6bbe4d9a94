-- SPDX-License-Identifier: Apache-2.0
-- 4-bit registers as they are stored: nibbles above a minimum, and a map of exceptions if there are any (docs/MODEL.md,
-- "4-bit registers").
use Rattle.std.specs.Prelude.{◌≡◌, ◌≢◌, ℕ, Bool, true, ◌+◌, ◌-◌, ◌*◌, ◌^◌, ◌<◌, ◌≤◌, ◌==◌, nat_le, if◌then◌else◌, List, length, map, slice_index, count_by, ◌++◌, All, Option, Some, None, Box}
use Rattle.std.specs.List.{fold, range_with_len}
use Rattle.std.specs.FinSet.{empty}
use Rattle.std.specs.Option.{option_map}
use Rattle.hll_coupons.specs.AuxMap.{ExceptionMap, IsMap, entries_in, value_in}
use Rattle.hll_coupons.specs.Pair.{Pairs, set_of}
use Rattle.hll_coupons.specs.Table.{coupons_in, coupons_of}
use Rattle.hll_kernels.specs.Packed.{nibble, nibble_at, nibble_bytes, minimum, count_at_minimum}
use Rattle.hll_registers.specs.Exceptions.{exceptions}
use Rattle.hll_registers.specs.Payload.{register_of, Agrees}
use Rattle.hll_kernels.specs.Packed.{AreRegisters}
use Rattle.hll_registers.specs.Store.{Stored, zero_registers, update_with_coupon}

-- the map in a box, if there is one
abbrev pub unboxed : {A : Type 0} → Option (Box ExceptionMap A) → Option ExceptionMap
unboxed None = None
unboxed (Some b) = Some b.value

-- the exception of a register above a minimum: the register itself, if it is at least 15 above
abbrev pub exception_of : ℕ → ℕ → Option ℕ
exception_of m r = if nat_le (m + 15) r then Some r else None

-- the value at a slot of the map, if there is a map
abbrev pub exception_in : Option ExceptionMap → ℕ → Option ℕ
exception_in None s = None
exception_in (Some t) s = value_in t s

-- the entries of the map, if there is one
abbrev pub exceptions_in : Option ExceptionMap → Pairs
exceptions_in None = empty
exceptions_in (Some t) = coupons_of t.table

-- the slot is one that the map has, if there is a map
abbrev pub IsSlotOf : Option ExceptionMap → ℕ → Type 0
IsSlotOf None s = Unit {0}
IsSlotOf (Some t) s = s < 2 ^ t.lg_k

-- an exception, if it still is one above a greater minimum
abbrev pub kept_above : ℕ → Option ℕ → Option ℕ
kept_above m None = None
kept_above m (Some v) = exception_of m v

-- the nibble of a slot above a greater minimum, above which its exception, if it has one, may no longer be one
abbrev pub fallen : ℕ → Option ℕ → ℕ → ℕ
fallen m None n = n
fallen m (Some v) n = if nat_le (m + 15) v then n else (v - m)

-- the registers of nibbles above a minimum, and exceptions
abbrev pub unpacked : ℕ → ℕ → List ℕ → Option ExceptionMap → List ℕ
unpacked k m bytes e = map (λ s. register_of m (nibble_at bytes s) (exception_in e s)) (range_with_len 0 (2 ^ k))

-- a map for slots below 2^k with at least one entry, or no map
abbrev pub IsMapFor : ℕ → Option ExceptionMap → Type 0
IsMapFor k None = Unit {0}
IsMapFor k (Some t) = IsMap t × (t.lg_k ≡ k) × (0 < length (coupons_in t.table.buckets))

-- 4-bit registers as they are read: nibbles above a minimum, and the entries of a map of exceptions, if there is one
pub record ArePartsOf (k m : ℕ) (bytes : List ℕ) (entries : Option (List (ℕ × ℕ))) (R : List ℕ) : Type 0 where
  pub exceptions : Option ExceptionMap
  pub entries_are : entries ≡ option_map entries_in exceptions
  pub size : 2 * length bytes ≡ 2 ^ k
  pub fits : All (λ b. b < 256) bytes
  pub map_for : IsMapFor k exceptions
  pub agree : (s : ℕ) → s < 2 ^ k → Agrees m (nibble_at bytes s) (exception_in exceptions s)
  pub registers_are : R ≡ unpacked k m bytes exceptions

-- some register is at the minimum, and the count, the nibbles and the exceptions are those of the registers above it
pub record IsPacked (k m n : ℕ) (bytes : List ℕ) (e : Option ExceptionMap) (R : List ℕ) : Type 0 where
  pub registers : AreRegisters k R
  pub least : (s : ℕ) → s < 2 ^ k → m ≤ slice_index R s
  pub count : n ≡ count_by (λ r. r == m) R
  pub some : 0 < n
  pub size : 2 * length bytes ≡ 2 ^ k
  pub fits : All (λ b. b < 256) bytes
  pub nibbles : (s : ℕ) → s < 2 ^ k → nibble_at bytes s ≡ nibble m (slice_index R s)
  pub map_for : IsMapFor k e
  pub excepted : (s : ℕ) → s < 2 ^ k → exception_in e s ≡ exception_of m (slice_index R s)

-- registers stored as nibbles and exceptions: the registers, and the map with its buckets
pub record NibbleRegisters : Type 0 where
  pub lg_k : ℕ
  pub registers : List ℕ
  pub exceptions : Option ExceptionMap

-- what contracts see of 4-bit registers: the registers with their state, and the map with its buckets
pub record FourBits : Type 0 where
  pub stored : Stored
  pub exceptions : Option ExceptionMap

-- the register at the slot is an exception
abbrev pub has_exception : List ℕ → ℕ → Bool
has_exception R s = nat_le (minimum R + 15) (slice_index R s)

-- the set of slots with an exception changes, and is not empty afterwards
pub record ExceptionsMove (k : ℕ) (old new : List ℕ) : Type 0 where
  pub moved : ℕ
  pub moved_within : moved < 2 ^ k
  pub moves : has_exception old moved ≢ has_exception new moved
  pub left : ℕ
  pub left_within : left < 2 ^ k
  pub leaves : has_exception new left ≡ true

-- ---- laws

-- what is stored is a function of the registers, and gives them back
pub record IsOfRegisters (k m n : ℕ) (bytes : List ℕ) (e : Option ExceptionMap) (R : List ℕ) : Type 0 where
  pub minimum_is : m ≡ minimum R
  pub count_is : n ≡ count_at_minimum R
  pub bytes_are : bytes ≡ nibble_bytes R
  pub exceptions_are : exceptions_in e ≡ set_of (exceptions R)
  pub unpacked_is : unpacked k m bytes e ≡ R

abbrev pub PackedIsOfRegisters : Type 0
PackedIsOfRegisters = (k m n : ℕ) (bytes : List ℕ) (e : Option ExceptionMap) (R : List ℕ) → k ≤ 21 → IsPacked k m n bytes e R → IsOfRegisters k m n bytes e R

-- from new registers on, the minimum starts at 0, never falls as updates are added, and is at most 63
pub record MinimumRises (k : ℕ) (coupons more : List ℕ) : Type 0 where
  pub starts : minimum (zero_registers k).registers ≡ 0
  pub never_falls : minimum (fold update_with_coupon (zero_registers k) coupons).registers ≤ minimum (fold update_with_coupon (zero_registers k) (coupons ++ more)).registers
  pub most : minimum (fold update_with_coupon (zero_registers k) (coupons ++ more)).registers ≤ 63

abbrev pub MinimumNeverFalls : Type 0
MinimumNeverFalls = (k : ℕ) (coupons more : List ℕ) → MinimumRises k coupons more
