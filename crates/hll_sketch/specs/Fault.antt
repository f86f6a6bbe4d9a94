-- SPDX-License-Identifier: Apache-2.0
-- What can be wrong with an image (docs/FORMAT.md, "Order of checks"; docs/MODEL.md, "Faults of images").
use Rattle.std.specs.Prelude.{◌≡◌, ◌≢◌, ℕ, ◌≤◌, ◌<◌, List, length, take, drop}
use Rattle.hll_base.specs.declared.error.Reason.{Reason}
use Rattle.hll_base.specs.declared.error.ErrorKind.TheVariants.{InvalidData}
use Rattle.hll_base.specs.Reason.{kind_of}
use Rattle.hll_base.specs.declared.error.Reason.TheVariants.{Truncated, Family, Version, LgK, Width, Stage, Preamble, LgArr}
use Rattle.hll_coupons.specs.Payload.{ListFault, SetFault}
use Rattle.hll_registers.specs.Payload.{Hll8Fault, Hll6Fault, Hll4Fault}
use Rattle.hll_sketch.specs.Value.{Sketch}
use Rattle.hll_sketch.specs.Image.{byte, preamble_byte, lg_k_byte, table_byte, stage_bits, width_bits, preamble_words, HasLgK, HasHeader, HasSetTable, list_shape, set_shape, hll4_shape, Image}

-- a check of the header fails: its eight bytes are not there, or a byte of them is wrong
pub data HeaderFault (b : List ℕ) : Reason → Type 0 where
  short : length b < 8 → HeaderFault b Truncated
  family : 8 ≤ length b → byte b 2 ≢ 7 → HeaderFault b Family
  version : 8 ≤ length b → byte b 1 ≢ 1 → HeaderFault b Version
  lg_k : 8 ≤ length b → (HasLgK b → ⊥) → HeaderFault b LgK
  width : 8 ≤ length b → width_bits b ≡ 3 → HeaderFault b Width
  stage : 8 ≤ length b → stage_bits b ≡ 3 → HeaderFault b Stage
  preamble : 8 ≤ length b → stage_bits b < 3 → preamble_byte b ≢ preamble_words (stage_bits b) → HeaderFault b Preamble

-- A check of this reason fails, all that it reads is there, and the fields that determine which check it is and how much it
-- reads pass their own checks.
pub data IsFault (b : List ℕ) : Reason → Type 0 where
  header : {r : Reason} → HeaderFault b r → IsFault b r
  -- a list
  list_table : 8 ≤ length b → stage_bits b ≡ 0 → table_byte b ≢ 3 → IsFault b LgArr
  list_payload : {r : Reason} → 8 ≤ length b → stage_bits b ≡ 0 → ListFault (list_shape b) (drop 8 b) r → IsFault b r
  -- a set
  set_table : 8 ≤ length b → stage_bits b ≡ 1 → HasLgK b → (HasSetTable b → ⊥) → IsFault b LgArr
  set_short : 8 ≤ length b → stage_bits b ≡ 1 → length b < 12 → IsFault b Truncated
  set_payload : {r : Reason} → 8 ≤ length b → stage_bits b ≡ 1 → HasLgK b → HasSetTable b → SetFault (set_shape b) (drop 8 b) r → IsFault b r
  -- registers
  hll_short : 8 ≤ length b → stage_bits b ≡ 2 → width_bits b < 3 → length b < 40 → IsFault b Truncated
  hll8_payload : {r : Reason} → 8 ≤ length b → stage_bits b ≡ 2 → width_bits b ≡ 2 → HasLgK b → Hll8Fault (lg_k_byte b) (drop 8 b) r → IsFault b r
  hll6_payload : {r : Reason} → 8 ≤ length b → stage_bits b ≡ 2 → width_bits b ≡ 1 → HasLgK b → Hll6Fault (lg_k_byte b) (drop 8 b) r → IsFault b r
  hll4_payload : {r : Reason} → 8 ≤ length b → stage_bits b ≡ 2 → width_bits b ≡ 0 → HasLgK b → Hll4Fault (hll4_shape b) (drop 8 b) r → IsFault b r

-- if the header has a fault, it is the header of no stage
abbrev pub FaultExcludesHeader : Type 0
FaultExcludesHeader = (b : List ℕ) (r : Reason) (stage : ℕ) → stage < 3 → HeaderFault b r → HasHeader b stage → ⊥

-- if the bytes have a fault, no prefix of them is an image
abbrev pub FaultExcludesImage : Type 0
FaultExcludesImage = (b : List ℕ) (r : Reason) → IsFault b r → (n : ℕ) (x : Sketch) → Image (take n b) x → ⊥

-- a fault of an image is a fault of its data: never of an argument or of memory
abbrev pub FaultsAreOfData : Type 0
FaultsAreOfData = (b : List ℕ) (r : Reason) → IsFault b r → kind_of r ≡ InvalidData
