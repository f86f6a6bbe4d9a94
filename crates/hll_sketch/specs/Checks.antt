-- SPDX-License-Identifier: Apache-2.0
-- The checks of an image in their order, and the first that fails (docs/FORMAT.md, "Order of checks"; docs/MODEL.md,
-- "Faults of images").
use Rattle.std.specs.Prelude.{◌≡◌, ℕ, zero, suc, ◌+◌, ◌*◌, ◌^◌, ◌%◌, ◌==◌, ◌↔◌, Bool, true, ◌&&◌, ◌||◌, if◌then◌else◌, nat_le, nat_lt, List, [], ◌∷◌, ◌++◌, ◌-◌, length, drop, take, map, Option, Some, None}
use Rattle.std.specs.Bool.{beq}
use Rattle.std.specs.List.{list_all}
use Rattle.std.specs.FinSet.{len}
use Rattle.hll_base.specs.declared.error.Reason.{Reason}
use Rattle.hll_base.specs.declared.error.Reason.TheVariants.{Truncated, Family, Version, LgK, Width, Stage, Preamble, LgArr, Count, Coupon, Register}
use Rattle.hll_coupons.specs.AuxMap.{entry_at}
use Rattle.hll_coupons.specs.Pair.{slot_of, value_of, set_of}
use Rattle.hll_coupons.specs.Payload.{list_buckets, list_coupons, set_count, set_buckets, set_coupons}
use Rattle.hll_kernels.specs.Packed.{nibble_at}
use Rattle.hll_registers.specs.Payload.{num_at_cur_min, exception_count, field_size, hll4_size, nibbles_of, entries_of}
use Rattle.hll_sketch.specs.Value.{Sketch}
use Rattle.hll_sketch.specs.Image.{byte, preamble_byte, lg_k_byte, table_byte, state_byte, is_flagged, stage_bits, width_bits, preamble_words, list_shape, set_shape, hll4_shape, IsReadAs}
use Rattle.hll_sketch.specs.Fault.{IsFault}

-- a check of an image, and the reason that is returned if it fails
pub record Check : Type 0 where
  pub passes : Bool
  pub reason : Reason

abbrev pub check : Reason → Bool → Check
check r t = record { passes = t; reason = r }

-- the reason of the first check that fails
abbrev pub first_failing : List Check → Option Reason
first_failing [] = None
first_failing (c ∷ cs) = if c.passes then first_failing cs else Some c.reason

-- The checks after a header: first of the fields that determine the rest and its size, and whether all its bytes are there;
-- then of what these bytes say.
pub record Checks : Type 0 where
  pub size : List Check
  pub content : List Check

-- ---- the header

abbrev pub header_checks : List ℕ → List Check
header_checks b =
    check Truncated (nat_le 8 (length b))
    ∷ check Family (byte b 2 == 7)
    ∷ check Version (byte b 1 == 1)
    ∷ check LgK (nat_le 4 (lg_k_byte b) && nat_le (lg_k_byte b) 21)
    ∷ check Width (nat_lt (width_bits b) 3)
    ∷ check Stage (nat_lt (stage_bits b) 3)
    ∷ check Preamble (preamble_byte b == preamble_words (stage_bits b))
    ∷ []

-- ---- coupons

-- each has a value above 0, and no two are equal
abbrev pub are_coupons : List ℕ → Bool
are_coupons coupons = list_all (λ c. nat_le 1 (value_of c)) coupons && (len (set_of coupons) == length coupons)

abbrev pub list_checks : List ℕ → Checks
list_checks b = record {
  size =
      check LgArr (table_byte b == 3)
      ∷ check Count (nat_le (state_byte b) 8 && beq (is_flagged 4 b) (state_byte b == 0))
      ∷ check Truncated (nat_le (8 + 4 * list_buckets (list_shape b)) (length b))
      ∷ [];
  content =
      let coupons = list_coupons (list_shape b) (drop 8 b) in
      check Coupon (are_coupons coupons) ∷ check Count (length coupons == state_byte b) ∷ [];
}

abbrev pub set_checks : List ℕ → Checks
set_checks b = record {
  size =
      check LgArr (nat_le 5 (table_byte b) && nat_le (table_byte b + 3) (lg_k_byte b))
      ∷ check Truncated (nat_le 12 (length b))
      ∷ check Count (nat_lt (set_count (drop 8 b)) (2 ^ table_byte b))
      ∷ check Truncated (nat_le (12 + 4 * set_buckets (set_shape b) (drop 8 b)) (length b))
      ∷ [];
  content =
      let coupons = set_coupons (set_shape b) (drop 8 b) in
      check Coupon (are_coupons coupons) ∷ check Count (length coupons == set_count (drop 8 b)) ∷ [];
}

-- ---- registers

-- the counts of 8-bit and 6-bit registers, and n bytes of registers after them
abbrev pub plain_checks : ℕ → List ℕ → List Check
plain_checks n b =
    check Truncated (nat_le 40 (length b))
    ∷ check Count (nat_le (num_at_cur_min (drop 8 b)) (2 ^ lg_k_byte b) && (exception_count (drop 8 b) == 0))
    ∷ check Truncated (nat_le (40 + n) (length b))
    ∷ []

abbrev pub hll8_checks : List ℕ → Checks
hll8_checks b = record {
  size = plain_checks (2 ^ lg_k_byte b) b;
  content = check Register (list_all (λ v. nat_le v 63) (take (2 ^ lg_k_byte b) (drop 40 b))) ∷ [];
}

abbrev pub hll6_checks : List ℕ → Checks
hll6_checks b = record { size = plain_checks (field_size (lg_k_byte b)) b; content = [] }

-- each entry has a value above 0, and no slot occurs twice
abbrev pub are_entries : ℕ → List ℕ → Bool
are_entries k entries = list_all (λ c. nat_le 1 (value_of c)) entries && (len (set_of (map (λ c. slot_of c % 2 ^ k) entries)) == length entries)

-- a nibble of 15 has an entry of at least 15 above the minimum; any other nibble has none
abbrev pub agrees : ℕ → ℕ → Option ℕ → Bool
agrees m n None = nat_lt n 15 && nat_le (m + n) 63
agrees m n (Some v) = (n == 15) && nat_le (m + 15) v

-- whether each number below the bound passes
abbrev pub all_below : (ℕ → Bool) → ℕ → Bool
all_below test zero = true
all_below test (suc n) = test n && all_below test n

abbrev pub hll4_checks : List ℕ → Checks
hll4_checks b =
    let k = lg_k_byte b in
    let excepted = exception_count (drop 8 b) in
    let nibbles = nibbles_of (hll4_shape b) (drop 8 b) in
    let entries = entries_of (hll4_shape b) (drop 8 b) in
    record {
      size =
          check Truncated (nat_le 40 (length b))
          ∷ check Count (nat_le (num_at_cur_min (drop 8 b)) (2 ^ k) && nat_le excepted (2 ^ k))
          ∷ check LgArr (is_flagged 8 b || ((excepted == 0) || nat_le (table_byte b) 26))
          ∷ check Truncated (nat_le (8 + hll4_size (hll4_shape b) (drop 8 b)) (length b))
          ∷ [];
      content =
          check Coupon (are_entries k entries)
          ∷ check Count (length entries == excepted)
          ∷ check Register (all_below (λ s. agrees (state_byte b) (nibble_at nibbles s) (entry_at k entries s)) (2 ^ k))
          ∷ [];
    }

-- ---- an image

-- by stage and width
abbrev pub checks_after : List ℕ → Checks
checks_after b =
    if stage_bits b == 0 then list_checks b
    else (if stage_bits b == 1 then set_checks b
    else (if width_bits b == 0 then hll4_checks b else (if width_bits b == 1 then hll6_checks b else hll8_checks b)))

-- the first fault of the header, the counts or the length
abbrev pub size_fault : List ℕ → Option Reason
size_fault b = first_failing (header_checks b ++ (checks_after b).size)

-- the first fault of an image
abbrev pub first_fault : List ℕ → Option Reason
first_fault b = first_failing (header_checks b ++ ((checks_after b).size ++ (checks_after b).content))

-- ---- the head of an image: its header and its counts

abbrev pub before_last : List Check → List Check
before_last cs = take (length cs - 1) cs

-- the checks of the fields and counts that determine the size: all that come before whether the image has all its bytes
abbrev pub checks_of_counts : Checks → List Check
checks_of_counts cs = before_last cs.size

-- the first fault of the counts after a header
abbrev pub count_fault : List ℕ → Option Reason
count_fault b = first_failing (checks_of_counts (checks_after b))

-- ---- laws

-- a first fault is a fault
abbrev pub FirstFaultStands : Type 0
FirstFaultStands = (b : List ℕ) (r : Reason) → first_fault b ≡ Some r → IsFault b r

-- bytes begin with an image exactly if they have no first fault
abbrev pub FaultlessIsImage : Type 0
FaultlessIsImage = (b : List ℕ) → (first_fault b ≡ None) ↔ ((x : Sketch) × IsReadAs b x)
