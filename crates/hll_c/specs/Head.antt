-- SPDX-License-Identifier: Apache-2.0
-- What a call reports of the head of an image: its header and its counts (docs/MODEL.md, "Calls over images").
use Rattle.std.specs.Prelude.{◌≡◌, ℕ, ◌+◌, ◌*◌, ◌==◌, if◌then◌else◌, List, Option, Some, None}
use Rattle.hll_base.specs.Reason.{number_of}
use Rattle.hll_base.specs.declared.error.Reason.{Reason}
use Rattle.hll_base.specs.declared.error.Reason.TheVariants.{Argument}
use Rattle.hll_sketch.specs.Checks.{first_failing, header_checks, count_fault}
use Rattle.hll_sketch.specs.Image.{lg_k_byte, state_byte, is_flagged, stage_bits, width_bits, width_of_bits, asked_size, asked_count, IsReadAs, IsSizeOfImage}
use Rattle.hll_sketch.specs.Value.{Sketch}
use Rattle.hll_c.specs.Calls.{bit, bits_of}
use Rattle.hll_c.specs.declared.head.HllHead.{HllHead}

-- the flags that mean something
abbrev pub flags_of : List ℕ → ℕ
flags_of b = 4 * bit (is_flagged 4 b) + 8 * bit (is_flagged 8 b) + 16 * bit (is_flagged 16 b)

-- what is added to each nibble of 4-bit registers
abbrev pub minimum_of : List ℕ → ℕ
minimum_of b = if stage_bits b == 2 then (if width_bits b == 0 then state_byte b else 0) else 0

-- what a header says that passes its checks, with what its counts say
abbrev pub head_with : List ℕ → ℕ → ℕ → ℕ → HllHead
head_with b size count fault = record { size = size; count = count; lg_k = lg_k_byte b; width = bits_of (width_of_bits (width_bits b)); stage = stage_bits b; flags = flags_of b; minimum = minimum_of b; fault = fault }

-- the head, by the first fault of the header and the first fault of the counts
abbrev pub head_by : List ℕ → Option Reason → Option Reason → HllHead
head_by b (Some r) _ = record { size = 0; count = 0; lg_k = 0; width = 0; stage = 0; flags = 0; minimum = 0; fault = number_of r }
head_by b None (Some r) = head_with b 0 0 (number_of r)
head_by b None None = head_with b (asked_size b) (asked_count b) 0

abbrev pub head_of : List ℕ → HllHead
head_of b = head_by b (first_failing (header_checks b)) (count_fault b)

-- what is reported of the head of these bytes; if they begin with an image, its size
pub record SaysHead (b : List ℕ) (h : HllHead) : Type 0 where
  pub is : h ≡ head_of b
  pub exact : (x : Sketch) → IsReadAs b x → IsSizeOfImage b h.size

-- an argument is out of range
abbrev pub RefusesHead : Type 0 → Reason → Type 0
RefusesHead InRange r = (r ≡ Argument) × (InRange → ⊥)
