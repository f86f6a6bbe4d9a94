-- SPDX-License-Identifier: Apache-2.0
-- What is written for a sketch (docs/FORMAT.md, "What is written"; docs/MODEL.md, "Written images").
use Rattle.std.specs.Prelude.{◌≡◌, ◌↔◌, ℕ, ◌+◌, ◌*◌, ◌≤◌, ◌==◌, if◌then◌else◌, List, ◌++◌, length, drop, All}
use Rattle.std.specs.FinSet.{len}
use Rattle.hll_coupons.specs.Pair.{IsPair, set_of}
use Rattle.hll_coupons.specs.Coupons.{WritesAscending, list_bytes, set_bytes}
use Rattle.hll_coupons.specs.Payload.{list_buckets, list_table}
use Rattle.hll_coupons.specs.Table.{filled_from_front}
use Rattle.hll_base.specs.declared.hll_type.HllType.{HllType}
use Rattle.hll_registers.specs.Payload.{WritesRegisters}
use Rattle.hll_sketch.specs.Value.{Sketch, Content, coupons, registers, IsLgK, IsLegal, IsEqual}
use Rattle.hll_sketch.specs.Image.{list_shape, IsListImage, Image}

-- the image of coupons in this order: of a list or of a set, by the size of the table
abbrev pub coupon_image : ℕ → HllType → ℕ → List ℕ → List ℕ
coupon_image k width size order = if size == 3 then list_bytes k width order else set_bytes k width size order

abbrev pub WritesContent : List ℕ → ℕ → HllType → Content → Type 0
WritesContent bytes k width (coupons S size) = WritesAscending (coupon_image k width size) S bytes
WritesContent bytes k width (registers R state) = WritesRegisters bytes k width R state

-- the bytes are what is written for the sketch, with its coupons or its exceptions in ascending order
abbrev pub Written : List ℕ → Sketch → Type 0
Written bytes x = WritesContent bytes x.lg_k x.width x.content

-- ---- laws

-- what is written for a legal sketch is an image of it
abbrev pub WrittenIsImage : Type 0
WrittenIsImage = (bytes : List ℕ) (x : Sketch) → IsLegal x → Written bytes x → Image bytes x

-- tables, if both contents have one, have the same size
abbrev pub HaveSameSize : Content → Content → Type 0
HaveSameSize (coupons S p) (coupons T q) = p ≡ q
HaveSameSize (coupons S p) (registers Q t) = Unit {0}
HaveSameSize (registers R s) (coupons T q) = Unit {0}
HaveSameSize (registers R s) (registers Q t) = Unit {0}

-- the bytes are the same exactly if the sketches are equal
abbrev pub SameBytes : Type 0
SameBytes = (x y : Sketch) (a b : List ℕ) → IsLegal x → IsLegal y → HaveSameSize x.content y.content → Written a x → Written b y →
    (a ≡ b) ↔ IsEqual x y

-- an image of a list, followed by any bytes, is read as a list with the coupons in their order
pub record IsReadBack (written order more : List ℕ) : Type 0 where
  pub image : IsListImage written
  pub size : 8 + 4 * list_buckets (list_shape (written ++ more)) ≡ length written
  pub table : list_table (list_shape (written ++ more)) (drop 8 (written ++ more)) ≡ filled_from_front 3 order

abbrev pub ListIsReadBack : Type 0
ListIsReadBack = (k : ℕ) (width : HllType) (order more : List ℕ) → IsLgK k → length order ≤ 8 → All IsPair order → len (set_of order) ≡ length order →
    IsReadBack (list_bytes k width order) order more
