-- SPDX-License-Identifier: Apache-2.0
-- What calls over images return and write (docs/MODEL.md, "Calls over images").
use Rattle.std.specs.Prelude.{◌≡◌, ℕ, ◌≤◌, ◌<◌, List, [], ◌∷◌, ◌++◌, length, drop, Some, None}
use Rattle.hll_base.specs.Reason.{number_of}
use Rattle.hll_base.specs.declared.error.Reason.{Reason}
use Rattle.hll_base.specs.declared.error.Reason.TheVariants.{Argument, Memory}
use Rattle.hll_images.specs.RegisterImages.{IsPlainImage}
use Rattle.hll_sketch.specs.ByteRegisters.{ReadNeedsMemory}
use Rattle.hll_sketch.specs.Checks.{first_fault, size_fault}
use Rattle.hll_sketch.specs.EstimatorFields.{FillsFields}
use Rattle.hll_sketch.specs.Image.{lg_k_byte, width_bits}
use Rattle.hll_sketch.specs.MergedIn.{HasPlainRegisters}
use Rattle.hll_sketch.specs.Value.{Sketch}
use Rattle.hll_sketch.specs.Written.{Written}
use Rattle.hll_c.specs.Batches.{IsFirstFaulty, MayAskAt}

-- the code of a call that did what was asked
abbrev pub ok_code : ℕ
ok_code = 0

-- the code of a call whose buffer is too small
abbrev pub buffer_code : ℕ
buffer_code = 14

-- A call that writes bytes into a buffer. With code 0 they are the first bytes of the buffer, the bytes after them are
-- unchanged, and the size is their number. With 14 the buffer is too small: only the size is set. With the number of a reason
-- of `Refuses`, nothing changes.
pub data PutsBytes (ArePut : List ℕ → Type 0) (Refuses : Reason → Type 0) (old new : List ℕ) (size_old size_new : ℕ) : ℕ → Type 0 where
  wrote : (bytes : List ℕ) → ArePut bytes → length bytes ≤ length old → new ≡ bytes ++ drop (length bytes) old → size_new ≡ length bytes
      → PutsBytes ArePut Refuses old new size_old size_new ok_code
  too_small : (bytes : List ℕ) → ArePut bytes → length old < length bytes → new ≡ old → size_new ≡ length bytes
      → PutsBytes ArePut Refuses old new size_old size_new buffer_code
  refused : (r : Reason) → Refuses r → new ≡ old → size_new ≡ size_old → PutsBytes ArePut Refuses old new size_old size_new (number_of r)

-- the bytes are what is written for a sketch that is made
abbrev pub IsImageOf : (Sketch → Type 0) → List ℕ → Type 0
IsImageOf IsMade bytes = (made : Sketch) × IsMade made × Written bytes made

-- a sketch that is made, with its estimator fields set if its estimate state is cleared
abbrev pub WithFields : (Sketch → Type 0) → Sketch → Type 0
WithFields IsMade y = (made : Sketch) × IsMade made × FillsFields made y

-- A call that makes a sketch, as `IsMade` says, and writes its image into a buffer, with its estimator fields set if its
-- estimate state is cleared.
abbrev pub Answers : (Sketch → Type 0) → (Reason → Type 0) → List ℕ → List ℕ → ℕ → ℕ → ℕ → Type 0
Answers IsMade Refuses = PutsBytes (IsImageOf (WithFields IsMade)) Refuses

-- A call that writes a result through a pointer, as `Says` says; or it fails with a reason of `Refuses`, and nothing changes.
pub data Reports (X : Type 0) (Says : X → Type 0) (Refuses : Reason → Type 0) (old new : X) : ℕ → Type 0 where
  reported : Says new → Reports X Says Refuses old new ok_code
  untold : (r : Reason) → Refuses r → new ≡ old → Reports X Says Refuses old new (number_of r)

-- A call that only returns a code.
pub data Tests (Passes : Type 0) (Refuses : Reason → Type 0) : ℕ → Type 0 where
  passed : Passes → Tests Passes Refuses ok_code
  failed : (r : Reason) → Refuses r → Tests Passes Refuses (number_of r)

-- ---- why a call fails

-- an argument is out of range, or an allocation fails
pub data RefusesArguments (InRange : Type 0) : Reason → Type 0 where
  argument : (InRange → ⊥) → RefusesArguments InRange Argument
  memory : InRange → RefusesArguments InRange Memory

-- An image fails a check, and this is the first that it fails; or an allocation fails. No allocation is made unless all bytes
-- that the image needs are there.
pub data RefusesImage (image : List ℕ) : Reason → Type 0 where
  image_fault : {r : Reason} → first_fault image ≡ Some r → RefusesImage image r
  image_memory : size_fault image ≡ None → RefusesImage image Memory

-- an argument is out of range, whatever the image is; or the image is rejected
pub data RefusesWith (InRange : Type 0) (image : List ℕ) : Reason → Type 0 where
  argument_with_image : (InRange → ⊥) → RefusesWith InRange image Argument
  image_refused : {r : Reason} → InRange → RefusesImage image r → RefusesWith InRange image r

-- An argument is out of range, or the image is rejected; never with `Memory` for 8-bit or 6-bit registers, if the result can be
-- written from the registers in place.
abbrev pub RefusesInPlace : Type 0 → Type 0 → List ℕ → Reason → Type 0
RefusesInPlace InRange InPlace image r = RefusesWith InRange image r × (r ≡ Memory → IsPlainImage image → InPlace → ⊥)

-- The image is rejected; with `Memory` only if reading it may need an allocation.
abbrev pub RefusesTested : List ℕ → Reason → Type 0
RefusesTested image r = RefusesImage image r × (r ≡ Memory → ReadNeedsMemory image)

-- An argument is out of range, or the image is rejected; with `Memory` only if reading it may need an allocation.
abbrev pub RefusesInfo : Type 0 → List ℕ → Reason → Type 0
RefusesInfo InRange image r = RefusesWith InRange image r × (r ≡ Memory → ReadNeedsMemory image)

-- An argument is out of range, or one of several images is rejected: `failed` becomes the number of the first image that fails
-- a check, and is unchanged on any other error. An allocation fails only after the images before were read, at an image whose
-- bytes are all there.
pub data RefusesImages (InRange : Type 0) (images : List (List ℕ)) (failed_old failed_new : ℕ) : Reason → Type 0 where
  argument_with_images : (InRange → ⊥) → failed_new ≡ failed_old → RefusesImages InRange images failed_old failed_new Argument
  images_fault : {r : Reason} → InRange → IsFirstFaulty images failed_new r → RefusesImages InRange images failed_old failed_new r
  images_memory : (n : ℕ) → InRange → MayAskAt images n → failed_new ≡ failed_old → RefusesImages InRange images failed_old failed_new Memory

-- two images of registers, with the same lg_k and width; if they are 4-bit registers, without exceptions
pub record ArePlainAlike (left right : List ℕ) : Type 0 where
  pub left_plain : HasPlainRegisters left
  pub right_plain : HasPlainRegisters right
  pub lg_k : lg_k_byte left ≡ lg_k_byte right
  pub width : width_bits left ≡ width_bits right

-- One of two images is rejected; never with `Memory` if their registers can be compared in the images.
abbrev pub RefusesAgreement : List ℕ → List ℕ → ℕ → ℕ → Reason → Type 0
RefusesAgreement left right failed_old failed_new r = RefusesImages (Unit {0}) (left ∷ right ∷ []) failed_old failed_new r × (r ≡ Memory → ArePlainAlike left right → ⊥)
