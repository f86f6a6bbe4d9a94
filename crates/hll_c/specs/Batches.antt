-- SPDX-License-Identifier: Apache-2.0
-- Concatenated byte strings, delimited by their ends (docs/MODEL.md, "Calls over images").
use Rattle.std.specs.Prelude.{◌≡◌, ℕ, zero, suc, ◌+◌, ◌-◌, ◌*◌, ◌/◌, ◌%◌, ◌^◌, ◌≤◌, ◌<◌, min, List, [], ◌∷◌, length, map, take, drop, slice_index, Some, None}
use Rattle.std.specs.List.{range_with_len}
use Rattle.hll_base.specs.declared.error.Reason.{Reason}
use Rattle.hll_sketch.specs.Checks.{first_fault, size_fault}
use Rattle.hll_sketch.specs.Image.{IsReadAs}
use Rattle.hll_sketch.specs.Value.{Sketch}

-- ends ascend from a start, and none is above the size; two may be equal
abbrev pub AreEndsFrom : ℕ → ℕ → List ℕ → Type 0
AreEndsFrom start size [] = Unit {0}
AreEndsFrom start size (end ∷ ends) = (start ≤ end) × (end ≤ size) × AreEndsFrom end size ends

abbrev pub AreEnds : ℕ → List ℕ → Type 0
AreEnds size ends = AreEndsFrom 0 size ends

-- the strings, each from the end before it, or from the start for the first, to its own end
abbrev pub strings_from : ℕ → List ℕ → List ℕ → List (List ℕ)
strings_from start bytes [] = []
strings_from start bytes (end ∷ ends) = take (end - start) (drop start bytes) ∷ strings_from end bytes ends

abbrev pub strings : List ℕ → List ℕ → List (List ℕ)
strings bytes ends = strings_from 0 bytes ends

-- where the string with this number begins
abbrev pub start_at : ℕ → List ℕ → ℕ → ℕ
start_at start [] i = start
start_at start (end ∷ ends) zero = start
start_at start (end ∷ ends) (suc i) = start_at end ends i

-- ---- strings without ends of their own

-- this number of bytes is a whole number of strings of one length, which is not 0
pub record AreOfLength (size value_len : ℕ) : Type 0 where
  pub some : 0 < value_len
  pub whole : size % value_len ≡ 0

-- the strings of one length that the bytes are cut into: string i begins at i times the length
abbrev pub strings_of_length : ℕ → List ℕ → List (List ℕ)
strings_of_length value_len bytes = map (λ i. take value_len (drop (i * value_len) bytes)) (range_with_len 0 (length bytes / value_len))

-- There is at least one offset, offsets ascend, none is above the size, and none is above 2^31 - 1: such an offset would be
-- negative as a signed 32-bit number.
pub record AreOffsets (size : ℕ) (offsets : List ℕ) : Type 0 where
  pub some : 0 < length offsets
  pub ascend : AreEnds (min size (2 ^ 31 - 1)) offsets

-- the strings between offsets: string i goes from offset i to the next one
abbrev pub strings_between : List ℕ → List ℕ → List (List ℕ)
strings_between offsets bytes = map (λ i. take (slice_index offsets (i + 1) - slice_index offsets i) (drop (slice_index offsets i) bytes)) (range_with_len 0 (length offsets - 1))

-- ---- images

-- images and the sketches that they are read as
abbrev pub AreReadAs : List (List ℕ) → List Sketch → Type 0
AreReadAs [] [] = Unit {0}
AreReadAs [] (x ∷ xs) = ⊥
AreReadAs (image ∷ images) [] = ⊥
AreReadAs (image ∷ images) (x ∷ xs) = IsReadAs image x × AreReadAs images xs

-- the image with this number, counted from 0, is the first that fails a check, and this reason is the first that it fails with
abbrev pub IsFirstFaulty : List (List ℕ) → ℕ → Reason → Type 0
IsFirstFaulty [] n r = ⊥
IsFirstFaulty (image ∷ images) zero r = first_fault image ≡ Some r
IsFirstFaulty (image ∷ images) (suc n) r = (first_fault image ≡ None) × IsFirstFaulty images n r

-- An allocation may fail at the image with this number, counted from 0: the images before it fail no check, and its header,
-- counts and length are right; or after the last image, if no image fails a check.
abbrev pub MayAskAt : List (List ℕ) → ℕ → Type 0
MayAskAt [] n = Unit {0}
MayAskAt (image ∷ images) zero = size_fault image ≡ None
MayAskAt (image ∷ images) (suc n) = (first_fault image ≡ None) × MayAskAt images n
