-- SPDX-License-Identifier: Apache-2.0
-- What the steps of a union of images promise (docs/MODEL.md, "Calls over images").
use Rattle.std.specs.Prelude.{◌≡◌, ℕ, ◌-◌, ◌≤◌, List, ◌⊎◌, length, Some, None}
use Rattle.hll_base.specs.declared.error.Reason.{Reason}
use Rattle.hll_base.specs.declared.error.Reason.TheVariants.{Memory}
use Rattle.hll_sketch.specs.Checks.{first_fault, size_fault}
use Rattle.hll_sketch.specs.Image.{IsReadAs}
use Rattle.hll_sketch.specs.Merging.{merge, merge_all}
use Rattle.hll_sketch.specs.Union.{IsGadget}
use Rattle.hll_sketch.specs.Value.{Sketch, IsLgK, IsLegal}
use Rattle.hll_state.specs.Counter.{sketch_in}
use Rattle.hll_state.specs.Header.{IsWithin}
use Rattle.hll_state.specs.Merged.{HasRoomToMerge}
use Rattle.hll_state.specs.declared.header.Header.{Header}
use Rattle.hll_state.specs.declared.join.Joined.{Joined}
use Rattle.hll_state.specs.declared.join.Joined.TheVariants.{Done, NoRoom, OtherLgK}
use Rattle.hll_c.specs.Answers.{IsImageOf, WithFields}
use Rattle.hll_c.specs.Batches.{AreReadAs, IsFirstFaulty, MayAskAt}
use Rattle.hll_c.specs.Calls.{IsUnionOf}

-- a union in a state: its bound, the header of the state, and the elements after it
pub record Union : Type 0 where
  pub lg_max_k : ℕ
  pub header : Header
  pub elements : List (List ℕ)

-- the union of what was merged
abbrev pub union_so_far : Union → Sketch
union_so_far u = sketch_in u.header u.elements

-- the elements are enough for what the header says, and mean the legal gadget of a union under the bound
pub record IsUnder (bound : ℕ) (h : Header) (elements : List (List ℕ)) : Type 0 where
  pub lg_k : IsLgK bound
  pub within : IsWithin h (length elements)
  pub gadget : IsGadget bound (sketch_in h elements)
  pub legal : IsLegal (sketch_in h elements)

-- there was no room to merge a sketch: the union is unchanged, and in this number of elements, ten of them a header, there is room
pub record HasNoRoom (y : Sketch) (before after : Union) (len : ℕ) : Type 0 where
  pub lacks : HasRoomToMerge before.header y (length before.elements) → ⊥
  pub kept : union_so_far after ≡ union_so_far before
  pub fits : 10 ≤ len
  pub enough : HasRoomToMerge after.header y (len - 10)

-- a sketch was merged, or there was no room for it
abbrev pub IsMergedInPlace : Sketch → Union → Union → Joined → Type 0
IsMergedInPlace y before after Done = union_so_far after ≡ merge before.lg_max_k (union_so_far before) y
IsMergedInPlace y before after (NoRoom len) = HasNoRoom y before after len
IsMergedInPlace y before after OtherLgK = ⊥

-- the sketch that an image is read as was merged
pub record MergesInto (before after : Union) (image : List ℕ) : Type 0 where
  pub sketch : Sketch
  pub read : IsReadAs image sketch
  pub gadget : union_so_far after ≡ merge before.lg_max_k (union_so_far before) sketch
  pub bound : after.lg_max_k ≡ before.lg_max_k

-- several images were merged into a union in turn
pub record MergesInAll (before after : Union) (images : List (List ℕ)) : Type 0 where
  pub sketches : List Sketch
  pub read : AreReadAs images sketches
  pub gadget : union_so_far after ≡ merge_all before.lg_max_k (union_so_far before) sketches

-- The image with this number can't be merged: an allocation fails, once the bytes that the image needs are there; or it fails a
-- check, and `failed` becomes its number.
abbrev pub IsRefusedAt : List ℕ → ℕ → ℕ → ℕ → Reason → Type 0
IsRefusedAt image number failed_old failed_new e = ((e ≡ Memory) × (size_fault image ≡ None) × (failed_new ≡ failed_old)) ⊎ ((first_fault image ≡ Some e) × (failed_new ≡ number))

-- An allocation fails where one may be made; or the first image that fails a check is rejected, and `failed` becomes its
-- number.
abbrev pub FailsToMergeIn : List (List ℕ) → ℕ → ℕ → Reason → Type 0
FailsToMergeIn images failed_old failed_new e = ((e ≡ Memory) × (failed_new ≡ failed_old) × (n : ℕ) × MayAskAt images n) ⊎ IsFirstFaulty images failed_new e

-- the bytes are an image of the union of images, whatever `failed` is
abbrev pub IsUnionInBytes : ℕ → ℕ → List (List ℕ) → List ℕ → Type 0
IsUnionInBytes lg_max_k bits images bytes = (failed : ℕ) → IsImageOf (WithFields (IsUnionOf lg_max_k bits images failed failed)) bytes

-- each image is read as a sketch
abbrev pub AreAllRead : List (List ℕ) → Type 0
AreAllRead images = (sketches : List Sketch) × AreReadAs images sketches
