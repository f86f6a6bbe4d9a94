-- SPDX-License-Identifier: Apache-2.0
-- Images of coupons, and the image of their union (docs/MODEL.md, "Written images").
use Rattle.std.specs.Prelude.{◌≡◌, ℕ, ◌⊎◌, false, List, length, Some}
use Rattle.std.specs.FinSet.{len, union}
use Rattle.std.specs.List.Sorted.{IsStrictlyIncreasing}
use Rattle.hll_base.specs.declared.hll_type.HllType.{HllType}
use Rattle.hll_coupons.specs.Coupons.{raw_coupons, WritesAscending}
use Rattle.hll_coupons.specs.Pair.{set_of}
use Rattle.hll_kernels.specs.Packed.{AreRegisters}
use Rattle.hll_registers.specs.State.{cleared_state}
use Rattle.hll_sketch.specs.Folding.{folded, IsFoldLgK}
use Rattle.hll_sketch.specs.Image.{IsReadAs}
use Rattle.hll_sketch.specs.Laws.{add_in_turn}
use Rattle.hll_sketch.specs.Merging.{merge, empty_union}
use Rattle.hll_sketch.specs.MergedIn.{HasCompactCoupons}
use Rattle.hll_sketch.specs.Stage.{stage}
use Rattle.hll_sketch.specs.Updatable.{HasUpdatableCoupons}
use Rattle.hll_sketch.specs.Value.{Sketch, coupons, registers, in_registers, is_empty, IsLgK, IsTableFor}
use Rattle.hll_sketch.specs.Written.{Written, coupon_image}
use Rattle.hll_images.specs.declared.coupon_images.OrderedImage.{OrderedImage}

-- the bytes are read as a sketch of these coupons, at an lg_k and in a table of 2^size buckets; and the list of them ascends
pub record IsInOrder (b : List ℕ) (k size : ℕ) (order : List ℕ) : Type 0 where
  pub sketch : Sketch
  pub read : IsReadAs b sketch
  pub lg_k : sketch.lg_k ≡ k
  pub content : sketch.content ≡ coupons (set_of order) size
  pub ascends : IsStrictlyIncreasing order

-- the raw coupons of an image, in their order
abbrev pub order_of : OrderedImage → List ℕ
order_of a = raw_coupons a.raw_coupons.count a.raw_coupons.bytes.now

-- they ascend, and the table holds them
pub record IsOrdered (a : OrderedImage) : Type 0 where
  pub lg_k : IsLgK a.lg_k
  pub ascends : IsStrictlyIncreasing (order_of a)
  pub table : IsTableFor a.lg_k (length (order_of a)) a.lg_size

-- the bytes are an image that says this
abbrev pub IsOrderedImage : List ℕ → OrderedImage → Type 0
IsOrderedImage b a = IsInOrder b a.lg_k a.lg_size (order_of a)

-- The bytes are an image of coupons for which one pass shows that they are coupons: it is compact, and they ascend or are at
-- most 128 or none; or it is updatable, with 1 to 128 coupons.
abbrev pub HasEvidentCoupons : List ℕ → Type 0
HasEvidentCoupons b = HasCompactCoupons b ⊎ HasUpdatableCoupons b

-- both sketches have coupons, the first is at the bound of a union, and the union of both is not in registers
pub record HasUnionInTable (bound : ℕ) (x y : Sketch) : Type 0 where
  pub some : is_empty x ≡ false
  pub others : is_empty y ≡ false
  pub lg_k : x.lg_k ≡ bound
  pub in_table : in_registers (merge bound (merge bound (empty_union bound) x) y).content ≡ false

-- both images have such coupons, and `HasUnionInTable` holds for their sketches
pub record HaveUnionInTable (bound : ℕ) (left right : List ℕ) : Type 0 where
  pub left_evident : HasEvidentCoupons left
  pub right_evident : HasEvidentCoupons right
  pub held : (x y : Sketch) → IsReadAs left x → IsReadAs right y → HasUnionInTable bound x y

-- the bytes are what is written, at a width, for the union under a bound of the sketches that two images are read as; the union
-- has coupons
pub record IsImageOfUnion (bound : ℕ) (width : HllType) (left right bytes : List ℕ) : Type 0 where
  pub bound_is : IsLgK bound
  pub left_sketch : Sketch
  pub left_read : IsReadAs left left_sketch
  pub right_sketch : Sketch
  pub right_read : IsReadAs right right_sketch
  pub in_table : in_registers (merge bound (merge bound (empty_union bound) left_sketch) right_sketch).content ≡ false
  pub written : Written bytes (record (merge bound (merge bound (empty_union bound) left_sketch) right_sketch) { width = width })

-- the image has such coupons, not none, and is at the bound of a union
pub record HasCouponsAt (bound : ℕ) (image : List ℕ) : Type 0 where
  pub evident : HasEvidentCoupons image
  pub held : (x : Sketch) → IsReadAs image x → (is_empty x ≡ false) × (x.lg_k ≡ bound)

-- the bytes are what is written, at a width, for the union under a bound of the sketch that one image is read as; the union has
-- coupons
pub record IsImageOfUnionOfOne (bound : ℕ) (width : HllType) (image bytes : List ℕ) : Type 0 where
  pub bound_is : IsLgK bound
  pub sketch : Sketch
  pub read : IsReadAs image sketch
  pub in_table : in_registers (merge bound (empty_union bound) sketch).content ≡ false
  pub written : Written bytes (record (merge bound (empty_union bound) sketch) { width = width })

-- The bytes are what is written, at an lg_k and a width, for the coupons of two lists. Their table is the one that results when
-- the coupons of the second list are added to those of the first, whose table has 2^size buckets.
pub record IsImageOfBoth (k : ℕ) (width : HllType) (size : ℕ) (xs ys bytes : List ℕ) : Type 0 where
  pub size_of_both : ℕ
  pub held : stage k size (len (union (set_of xs) (set_of ys))) ≡ Some size_of_both
  pub written : WritesAscending (coupon_image k width size_of_both) (union (set_of xs) (set_of ys)) bytes

-- the bytes are what is written for the sketch that an image is read as, with coupons added in turn; it still has coupons
pub record IsImageWith (added image bytes : List ℕ) : Type 0 where
  pub sketch : Sketch
  pub read : IsReadAs image sketch
  pub in_table : in_registers (add_in_turn sketch added).content ≡ false
  pub written : Written bytes (add_in_turn sketch added)

-- both images can be read, and the bound is in range
pub record AreBothRead (bound : ℕ) (left right : List ℕ) : Type 0 where
  pub bound_is : IsLgK bound
  pub left_sketch : Sketch
  pub left_read : IsReadAs left left_sketch
  pub right_sketch : Sketch
  pub right_read : IsReadAs right right_sketch

-- the bytes are what is written, at a width, for the sketch that an image is read as; it has coupons
pub record IsImageAt (width : HllType) (image bytes : List ℕ) : Type 0 where
  pub sketch : Sketch
  pub read : IsReadAs image sketch
  pub in_table : in_registers sketch.content ≡ false
  pub written : Written bytes (record sketch { width = width })

-- the sketch that an image is read as, folded to an lg_k, has these registers, and the cleared estimate state
pub record AreFoldedRegisters (lg_k : ℕ) (image : List ℕ) (width : HllType) (R : List ℕ) : Type 0 where
  pub sketch : Sketch
  pub read : IsReadAs image sketch
  pub within : IsFoldLgK sketch.lg_k lg_k
  pub is : folded sketch lg_k ≡ record { lg_k = lg_k; width = width; content = registers R cleared_state }
  pub legal : AreRegisters lg_k R

-- the bytes are what is written for the sketch that an image is read as, folded to an lg_k; it still has coupons
pub record IsFoldedImage (lg_k : ℕ) (image bytes : List ℕ) : Type 0 where
  pub sketch : Sketch
  pub read : IsReadAs image sketch
  pub within : IsFoldLgK sketch.lg_k lg_k
  pub in_table : in_registers (folded sketch lg_k).content ≡ false
  pub written : Written bytes (folded sketch lg_k)
