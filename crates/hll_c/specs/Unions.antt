-- SPDX-License-Identifier: Apache-2.0
-- States into which sketches were merged under one bound (docs/MODEL.md, "States of a counter").
use Rattle.std.specs.Prelude.{ℕ, List, [], ◌∷◌, ◌++◌, All}
use Rattle.hll_sketch.specs.Image.{IsReadAs}
use Rattle.hll_sketch.specs.Merging.{merge_all, empty_union}
use Rattle.hll_sketch.specs.Value.{Sketch, IsLgK, IsLegal}
use Rattle.hll_state.specs.Memory.{IsStateOf}

-- the elements are the state of the union, under a bound, of legal sketches that were merged in turn
pub record IsStateOfUnion (bound : ℕ) (sketches : List Sketch) (elements : List (List ℕ)) : Type 0 where
  pub lg_k : IsLgK bound
  pub legal : All IsLegal sketches
  pub is : IsStateOf elements (merge_all bound (empty_union bound) sketches)

-- the state of any union under the bound becomes the state of the union with one more sketch
abbrev pub ExtendsUnion : ℕ → Sketch → List (List ℕ) → List (List ℕ) → Type 0
ExtendsUnion bound y old new = (xs : List Sketch) → IsStateOfUnion bound xs old → IsStateOfUnion bound (xs ++ y ∷ []) new

-- the sketch is that of an image
pub record ExtendsUnionByImage (bound : ℕ) (image : List ℕ) (old new : List (List ℕ)) : Type 0 where
  pub sketch : Sketch
  pub read : IsReadAs image sketch
  pub extends : ExtendsUnion bound sketch old new

-- the sketch is that of another state, if it is legal
abbrev pub ExtendsUnionByState : ℕ → List (List ℕ) → List (List ℕ) → List (List ℕ) → Type 0
ExtendsUnionByState bound other old new = (y : Sketch) → IsStateOf other y → IsLegal y → ExtendsUnion bound y old new
