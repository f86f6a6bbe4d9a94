-- SPDX-License-Identifier: Apache-2.0
-- What the calls over images write and return, and why they fail (docs/MODEL.md, "Calls over images").
use Rattle.std.specs.Prelude.{◌≡◌, ℕ, ◌^◌, ◌≤◌, ◌<◌, ◌↔◌, ◌⊎◌, Bool, true, false, List, [], ◌∷◌, ◌++◌, length, drop, map}
use Rattle.hll_base.specs.Reason.{number_of}
use Rattle.hll_base.specs.declared.error.Reason.{Reason}
use Rattle.hll_base.specs.declared.error.Reason.TheVariants.{Argument}
use Rattle.hll_base.specs.declared.hll_type.HllType.{HllType}
use Rattle.hll_base.specs.declared.hll_type.HllType.TheVariants.{Hll4, Hll6, Hll8}
use Rattle.hll_coupons.specs.Hashed.{coupon_of_bytes}
use Rattle.hll_coupons.specs.Pair.{pair, set_of}
use Rattle.hll_sketch.specs.Adding.{add}
use Rattle.hll_sketch.specs.Agree.{Agree}
use Rattle.hll_sketch.specs.EstimatorFields.{cleared}
use Rattle.hll_sketch.specs.Folding.{folded, IsFoldLgK}
use Rattle.hll_sketch.specs.Image.{IsReadAs, width_bits, width_of_bits}
use Rattle.hll_sketch.specs.Laws.{add_in_turn}
use Rattle.hll_sketch.specs.Merging.{merge_all, empty_union}
use Rattle.hll_sketch.specs.Value.{Sketch, IsLgK, empty_sketch}
use Rattle.hll_c.specs.Answers.{RefusesWith, ok_code, buffer_code}
use Rattle.hll_c.specs.Batches.{AreEnds, strings, AreReadAs}

-- ---- truth and widths, as numbers

-- 1 for true, 0 for false
abbrev pub bit : Bool → ℕ
bit true = 1
bit false = 0

abbrev pub bits_of : HllType → ℕ
bits_of Hll4 = 4
bits_of Hll6 = 6
bits_of Hll8 = 8

-- the number is a width
pub record IsWidth (bits : ℕ) : Type 0 where
  pub width : HllType
  pub is : bits_of width ≡ bits

-- the number is a width, or 0, which asks for one that is already known
abbrev pub AsksWidth : ℕ → Type 0
AsksWidth bits = IsWidth bits ⊎ (bits ≡ 0)

-- the width that a number asks for: the width of this number of bits, or for 0 the given one
pub data IsAskedWidth (bits : ℕ) (given : HllType) : HllType → Type 0 where
  of_bits : {width : HllType} → bits_of width ≡ bits → IsAskedWidth bits given width
  as_given : bits ≡ 0 → IsAskedWidth bits given given

-- the number asks for the width of the image
abbrev pub AsksOwnWidth : ℕ → List ℕ → Type 0
AsksOwnWidth bits image = IsAskedWidth bits (width_of_bits (width_bits image)) (width_of_bits (width_bits image))

-- ---- an empty sketch

pub record AreNewArguments (lg_k bits : ℕ) : Type 0 where
  pub lg_k_is : IsLgK lg_k
  pub width_is : IsWidth bits

-- the empty sketch
pub record IsEmptyAt (lg_k bits : ℕ) (y : Sketch) : Type 0 where
  pub arguments : AreNewArguments lg_k bits
  pub is : y ≡ empty_sketch lg_k arguments.width_is.width

-- ---- one image

-- what is made of the sketch that an image is read as
pub record IsMadeOf (image : List ℕ) (IsMade : Sketch → Sketch → Type 0) (y : Sketch) : Type 0 where
  pub sketch : Sketch
  pub read : IsReadAs image sketch
  pub is_made : IsMade sketch y

-- a sketch folded to an lg_k
pub record IsFoldOf (lg_k : ℕ) (x y : Sketch) : Type 0 where
  pub lg_k_is : IsLgK lg_k
  pub within : IsFoldLgK x.lg_k lg_k
  pub is : y ≡ folded x lg_k

-- A fold fails if no sketch has this lg_k, whatever the image is; if the lg_k is above that of the sketch; or if the image is
-- rejected.
pub data RefusesFold (lg_k : ℕ) (image : List ℕ) : Reason → Type 0 where
  above : (x : Sketch) → IsReadAs image x → x.lg_k < lg_k → RefusesFold lg_k image Argument
  with : {r : Reason} → RefusesWith (IsLgK lg_k) image r → RefusesFold lg_k image r

-- a sketch at a width
abbrev pub HasWidth : HllType → Sketch → Sketch → Type 0
HasWidth width x y = y ≡ record x { width = width }

-- a sketch at the width that a number asks for, where 0 asks for its own
pub record IsAtWidth (bits : ℕ) (x y : Sketch) : Type 0 where
  pub width : HllType
  pub asked : IsAskedWidth bits x.width width
  pub is : HasWidth width x y

-- a sketch with its estimate state cleared
abbrev pub IsCleared : Sketch → Sketch → Type 0
IsCleared x y = y ≡ cleared x

-- a slot and a value of a coupon
pub record AreOfCoupon (slot value : ℕ) : Type 0 where
  pub slot_is : slot < 2 ^ 26
  pub least : 1 ≤ value
  pub most : value ≤ 63

-- a sketch with one more coupon
pub record HasCoupon (slot value : ℕ) (x y : Sketch) : Type 0 where
  pub are : AreOfCoupon slot value
  pub is : y ≡ add x (set_of (pair slot value ∷ []))

-- a sketch with the coupons of byte strings, added in turn
pub record HasValues (AreStrings : Type 0) (strings : List (List ℕ)) (x y : Sketch) : Type 0 where
  pub are : AreStrings
  pub is : y ≡ add_in_turn x (map coupon_of_bytes strings)

-- ---- several images

pub record AreUnionArguments (lg_max_k bits : ℕ) : Type 0 where
  pub lg_max_k_is : IsLgK lg_max_k
  pub width_is : IsWidth bits

-- the union, at a width and with a bound of its lg_k, of the sketches that images are read as; `failed` is unchanged
pub record IsUnionOf (lg_max_k bits : ℕ) (images : List (List ℕ)) (failed_old failed_new : ℕ) (y : Sketch) : Type 0 where
  pub arguments : AreUnionArguments lg_max_k bits
  pub sketches : List Sketch
  pub read : AreReadAs images sketches
  pub is : y ≡ record (merge_all lg_max_k (empty_union lg_max_k) sketches) { width = arguments.width_is.width }
  pub untold : failed_new ≡ failed_old

-- the arguments of a union of images in a batch
pub record AreBatchArguments (lg_max_k bits size : ℕ) (ends : List ℕ) : Type 0 where
  pub union : AreUnionArguments lg_max_k bits
  pub are : AreEnds size ends

-- the union of the images in a batch
pub record IsUnionOfBatch (lg_max_k bits : ℕ) (images ends : List ℕ) (failed_old failed_new : ℕ) (y : Sketch) : Type 0 where
  pub are : AreEnds (length images) ends
  pub is : IsUnionOf lg_max_k bits (strings images ends) failed_old failed_new y

-- 1 if the sketches that two images are read as agree, else 0
pub record SaysAgreement (left right : List ℕ) (failed_old failed_new same : ℕ) : Type 0 where
  pub here : Sketch
  pub here_read : IsReadAs left here
  pub there : Sketch
  pub there_read : IsReadAs right there
  pub answer : Bool
  pub same_is : same ≡ bit answer
  pub is : (answer ≡ true) ↔ Agree here there
  pub untold : failed_new ≡ failed_old

-- ---- coupons

-- The coupons are written into the first elements of a buffer, whose other elements are unchanged; or the buffer has fewer
-- elements, or the coupons can't be asked for, and nothing changes.
pub data PutsCoupons (AreCoupons : Type 0) (coupons old new : List ℕ) : ℕ → Type 0 where
  put : AreCoupons → length coupons ≤ length old → new ≡ coupons ++ drop (length coupons) old → PutsCoupons AreCoupons coupons old new ok_code
  no_room : AreCoupons → length old < length coupons → new ≡ old → PutsCoupons AreCoupons coupons old new buffer_code
  no_coupons : (AreCoupons → ⊥) → new ≡ old → PutsCoupons AreCoupons coupons old new (number_of Argument)
