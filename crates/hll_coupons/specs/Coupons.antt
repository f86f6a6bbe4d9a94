-- SPDX-License-Identifier: Apache-2.0
-- Coupons in the bytes of an image: how buckets are read, and what is written for a list and a set
-- (docs/FORMAT.md, "The image"; docs/MODEL.md, "Images").
use Rattle.std.specs.Prelude.{◌≡◌, ℕ, ◌+◌, ◌*◌, ◌≤◌, ◌==◌, Bool, if◌then◌else◌, List, [], ◌∷◌, ◌++◌, length, drop, All}
use Rattle.std.proofs.Common.{zero, suc}
use Rattle.std.specs.List.{flat_map}
use Rattle.std.specs.List.Sorted.{IsStrictlyIncreasing}
use Rattle.std.specs.Int.{w32, to_le_bytes, from_le_bytes}
use Rattle.std.specs.FinSet.{len}
use Rattle.hll_coupons.specs.Pair.{Pairs, value_of, set_of}
use Rattle.hll_coupons.specs.Table.{coupons_in}
use Rattle.hll_base.specs.declared.hll_type.HllType.{HllType}
use Rattle.hll_base.specs.declared.hll_type.HllType.TheVariants.{Hll4, Hll6, Hll8}

-- ---- reading

-- the first n raw coupons of four bytes, the lowest byte first
abbrev pub raw_coupons : ℕ → List ℕ → List ℕ
raw_coupons zero bytes = []
raw_coupons (suc n) bytes = from_le_bytes w32 bytes ∷ raw_coupons n (drop 4 bytes)

-- the coupons of the first n buckets: all buckets if the image is compact, else those that are not empty
abbrev pub coupons_at : Bool → ℕ → List ℕ → List ℕ
coupons_at compact n bytes = if compact then raw_coupons n bytes else coupons_in (raw_coupons n bytes)

-- each has a value, and none occurs twice
pub record AreCoupons (coupons : List ℕ) : Type 0 where
  pub valued : All (λ c. 1 ≤ value_of c) coupons
  pub distinct : len (set_of coupons) ≡ length coupons

-- ---- writing

-- the members of a set in ascending order, each once
pub record IsAscending (order : List ℕ) (S : Pairs) : Type 0 where
  pub increasing : IsStrictlyIncreasing order
  pub members : set_of order ≡ S

-- the bytes that are made of a set's members in ascending order
pub record WritesAscending (bytes_of : List ℕ → List ℕ) (S : Pairs) (bytes : List ℕ) : Type 0 where
  pub order : List ℕ
  pub ascending : IsAscending order S
  pub is : bytes ≡ bytes_of order

-- the code of a width in the mode byte
abbrev pub bits_of_width : HllType → ℕ
bits_of_width Hll4 = 0
bits_of_width Hll6 = 1
bits_of_width Hll8 = 2

-- the mode byte of a stage (0 LIST, 1 SET, 2 HLL) and a width
abbrev pub mode_byte : ℕ → HllType → ℕ
mode_byte stage width = stage + 4 * bits_of_width width

-- coupons as four bytes each, the lowest byte first
abbrev pub coupon_bytes : List ℕ → List ℕ
coupon_bytes order = flat_map (to_le_bytes w32) order

-- the eight bytes before the coupons of a list with this count
abbrev pub list_header : ℕ → HllType → ℕ → List ℕ
list_header lg_k width count = 2 ∷ 1 ∷ 7 ∷ lg_k ∷ 3 ∷ (if count == 0 then 12 else 8) ∷ count ∷ mode_byte 0 width ∷ []

-- the compact image of a list: the header, and the coupons in this order
abbrev pub list_bytes : ℕ → HllType → List ℕ → List ℕ
list_bytes lg_k width order = list_header lg_k width (length order) ++ coupon_bytes order

-- the eight bytes before the count of a set with a table of 2^size buckets
abbrev pub set_header : ℕ → HllType → ℕ → List ℕ
set_header lg_k width size = 3 ∷ 1 ∷ 7 ∷ lg_k ∷ size ∷ 8 ∷ 0 ∷ mode_byte 1 width ∷ []

-- the compact image of a set: the header, the count, and the coupons in this order
abbrev pub set_bytes : ℕ → HllType → ℕ → List ℕ → List ℕ
set_bytes lg_k width size order = set_header lg_k width size ++ (to_le_bytes w32 (length order) ++ coupon_bytes order)
