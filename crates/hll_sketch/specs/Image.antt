-- SPDX-License-Identifier: Apache-2.0
-- The grammar of images, by cases (docs/FORMAT.md, "The image"; docs/MODEL.md, "Images").
use Rattle.std.specs.Prelude.{◌≡◌, ◌⊎◌, true, ℕ, ◌+◌, ◌*◌, ◌^◌, ◌/◌, ◌%◌, ◌≤◌, ◌<◌, ◌==◌, Bool, if◌then◌else◌, List, length, take, drop, slice_index, All, ◌++◌}
use Rattle.hll_coupons.specs.Pair.{set_of}
use Rattle.hll_coupons.specs.Payload.{ListShape, shape_of_list, list_buckets, list_coupons, IsListPayload, SetShape, set_count, set_buckets, set_coupons, IsSetPayload}
use Rattle.hll_base.specs.declared.hll_type.HllType.{HllType}
use Rattle.hll_base.specs.declared.hll_type.HllType.TheVariants.{Hll4, Hll6, Hll8}
use Rattle.hll_kernels.specs.Packed.{fields}
use Rattle.hll_registers.specs.Payload.{state_at, exception_count, field_size, hll4_size, IsHll8Payload, IsHll6Payload, Hll4Shape, registers_of, IsHll4Payload}
use Rattle.hll_sketch.specs.Value.{Sketch, coupons, registers, IsLgK, IsLegal}

-- ---- the header, eight bytes

-- a byte, or 0 past the end
abbrev pub byte : List ℕ → ℕ → ℕ
byte b i = slice_index b i

abbrev pub preamble_byte : List ℕ → ℕ
preamble_byte b = byte b 0

abbrev pub lg_k_byte : List ℕ → ℕ
lg_k_byte b = byte b 3

abbrev pub table_byte : List ℕ → ℕ
table_byte b = byte b 4

abbrev pub state_byte : List ℕ → ℕ
state_byte b = byte b 6

-- the flags: 4 empty, 8 compact, 16 out of order
abbrev pub is_flagged : ℕ → List ℕ → Bool
is_flagged mask b = byte b 5 / mask % 2 == 1

-- the stage: 0 LIST, 1 SET, 2 HLL
abbrev pub stage_bits : List ℕ → ℕ
stage_bits b = byte b 7 % 4

-- the width: 0, 1 and 2 for 4, 6 and 8 bits
abbrev pub width_bits : List ℕ → ℕ
width_bits b = byte b 7 / 4 % 4

abbrev pub width_of_bits : ℕ → HllType
width_of_bits n = if n == 0 then Hll4 else (if n == 1 then Hll6 else Hll8)

-- the preamble words of a stage
abbrev pub preamble_words : ℕ → ℕ
preamble_words stage = if stage == 0 then 2 else (if stage == 1 then 3 else 10)

-- its lg_k is one that a sketch may have
abbrev pub HasLgK : List ℕ → Type 0
HasLgK b = IsLgK (lg_k_byte b)

-- a header of this stage that passes the checks of every stage
pub record HasHeader (b : List ℕ) (stage : ℕ) : Type 0 where
  pub whole : 8 ≤ length b
  pub family : byte b 2 ≡ 7
  pub version : byte b 1 ≡ 1
  pub lg_k : HasLgK b
  pub width : width_bits b < 3
  pub stage_is : stage_bits b ≡ stage
  pub preamble : preamble_byte b ≡ preamble_words stage

-- what the header says of each stage
abbrev pub list_shape : List ℕ → ListShape
list_shape b = shape_of_list 3 (state_byte b) (is_flagged 4 b) (is_flagged 8 b)

abbrev pub set_shape : List ℕ → SetShape
set_shape b = record { lg_size = table_byte b; compact = is_flagged 8 b }

abbrev pub hll4_shape : List ℕ → Hll4Shape
hll4_shape b = record { lg_k = lg_k_byte b; minimum = state_byte b; compact = is_flagged 8 b; lg_table = table_byte b }

-- the size of a set's table fits its lg_k
pub record HasSetTable (b : List ℕ) : Type 0 where
  pub low : 5 ≤ table_byte b
  pub high : table_byte b + 3 ≤ lg_k_byte b

-- exceptions of 4-bit registers that lie in a table lie in one of at most 2^26 buckets
abbrev pub HasExceptionTable : List ℕ → Type 0
HasExceptionTable b = (is_flagged 8 b ≡ true) ⊎ ((exception_count (drop 8 b) ≡ 0) ⊎ (table_byte b ≤ 26))

-- ---- what an image means

abbrev pub list_value : List ℕ → Sketch
list_value b = record { lg_k = lg_k_byte b; width = width_of_bits (width_bits b); content = coupons (set_of (list_coupons (list_shape b) (drop 8 b))) 3 }

abbrev pub set_value : List ℕ → Sketch
set_value b = record { lg_k = lg_k_byte b; width = width_of_bits (width_bits b); content = coupons (set_of (set_coupons (set_shape b) (drop 8 b))) (table_byte b) }

abbrev pub hll8_value : List ℕ → Sketch
hll8_value b = record { lg_k = lg_k_byte b; width = Hll8; content = registers (drop 40 b) (state_at (is_flagged 16 b) (drop 8 b)) }

abbrev pub hll6_value : List ℕ → Sketch
hll6_value b = record { lg_k = lg_k_byte b; width = Hll6; content = registers (fields (drop 40 b)) (state_at (is_flagged 16 b) (drop 8 b)) }

abbrev pub hll4_value : List ℕ → Sketch
hll4_value b = record { lg_k = lg_k_byte b; width = Hll4; content = registers (registers_of (hll4_shape b) (drop 8 b)) (state_at (is_flagged 16 b) (drop 8 b)) }

-- ---- the cases

pub record IsListImage (b : List ℕ) : Type 0 where
  pub header : HasHeader b 0
  pub table : table_byte b ≡ 3
  pub payload : IsListPayload (list_shape b) (drop 8 b)

pub record IsSetImage (b : List ℕ) : Type 0 where
  pub header : HasHeader b 1
  pub table : HasSetTable b
  pub payload : IsSetPayload (set_shape b) (drop 8 b)

pub record IsHll8Image (b : List ℕ) : Type 0 where
  pub header : HasHeader b 2
  pub width : width_bits b ≡ 2
  pub payload : IsHll8Payload (lg_k_byte b) (drop 8 b)

pub record IsHll6Image (b : List ℕ) : Type 0 where
  pub header : HasHeader b 2
  pub width : width_bits b ≡ 1
  pub payload : IsHll6Payload (lg_k_byte b) (drop 8 b)

pub record IsHll4Image (b : List ℕ) : Type 0 where
  pub header : HasHeader b 2
  pub width : width_bits b ≡ 0
  pub payload : IsHll4Payload (hll4_shape b) (drop 8 b)

-- the bytes are an image of the sketch value
pub data Image (b : List ℕ) (x : Sketch) : Type 0 where
  list : IsListImage b → x ≡ list_value b → Image b x
  set : IsSetImage b → x ≡ set_value b → Image b x
  hll8 : IsHll8Image b → x ≡ hll8_value b → Image b x
  hll6 : IsHll6Image b → x ≡ hll6_value b → Image b x
  hll4 : IsHll4Image b → x ≡ hll4_value b → Image b x

-- ---- laws

-- no image is a proper prefix of another, and the bytes of an image have one meaning
abbrev pub OneImage : Type 0
OneImage = (a b s t : List ℕ) (x y : Sketch) → Image a x → Image b y → a ++ s ≡ b ++ t → (a ≡ b) × (x ≡ y)

-- the numbers are bytes
abbrev pub AreBytes : List ℕ → Type 0
AreBytes b = All (λ c. c < 256) b

-- the sketch of an image is legal
abbrev pub ImageIsLegal : Type 0
ImageIsLegal = (b : List ℕ) (x : Sketch) → AreBytes b → Image b x → IsLegal x

-- the bytes begin with an image of the sketch
pub record IsReadAs (b : List ℕ) (x : Sketch) : Type 0 where
  pub size : ℕ
  pub image : Image (take size b) x

-- ---- how many bytes an image has

-- the size that follows from the header, and from the counts after it
abbrev pub asked_size : List ℕ → ℕ
asked_size b =
    if stage_bits b == 0 then 8 + 4 * list_buckets (list_shape b)
    else (if stage_bits b == 1 then 12 + 4 * set_buckets (set_shape b) (drop 8 b)
    else (if width_bits b == 0 then 8 + hll4_size (hll4_shape b) (drop 8 b)
    else (if width_bits b == 1 then 40 + field_size (lg_k_byte b) else 40 + 2 ^ lg_k_byte b)))

-- the count of its coupons, or of the exceptions of its registers
abbrev pub asked_count : List ℕ → ℕ
asked_count b =
    if stage_bits b == 0 then state_byte b
    else (if stage_bits b == 1 then set_count (drop 8 b) else exception_count (drop 8 b))

-- the first n bytes are an image
pub record IsSizeOfImage (b : List ℕ) (n : ℕ) : Type 0 where
  pub there : n ≤ length b
  pub sketch : Sketch
  pub image : Image (take n b) sketch
