-- SPDX-License-Identifier: Apache-2.0
-- The sketches of the states that calls leave (docs/MODEL.md, "States of a counter").
use Rattle.std.specs.Prelude.{◌≡◌, ℕ, Bool, true, List, [], ◌∷◌, All}
use Rattle.hll_base.specs.declared.hll_type.HllType.TheVariants.{Hll8}
use Rattle.hll_coupons.specs.Pair.{IsPair}
use Rattle.hll_sketch.specs.Laws.{add_in_turn}
use Rattle.hll_sketch.specs.Merging.{merge, merge_all, empty_union}
use Rattle.hll_sketch.specs.Union.{IsGadget}
use Rattle.hll_sketch.specs.Value.{Sketch, IsLgK, IsLegal, empty_sketch}
use Rattle.hll_state.specs.Joined.{joined}
use Rattle.hll_state.specs.Memory.{OfState}
use Rattle.hll_state.specs.Merged.{HasSomeRegister}

-- a legal sketch with a width of 8 bits; its registers, if it has registers, are not all 0
pub record IsWhole (x : Sketch) : Type 0 where
  pub legal : IsLegal x
  pub width : x.width ≡ Hll8
  pub some : HasSomeRegister x

-- if elements were the state of such a sketch, they are the state of such a sketch afterwards
abbrev pub LeavesWhole : List (List ℕ) → List (List ℕ) → Type 0
LeavesWhole old new = OfState old IsWhole → OfState new IsWhole

-- ---- what calls make of a sketch

abbrev pub EmptyIsWhole : Type 0
EmptyIsWhole = (k : ℕ) → IsLgK k → IsWhole (empty_sketch k Hll8)

abbrev pub AddingLeavesWhole : Type 0
AddingLeavesWhole = (x : Sketch) (cs : List ℕ) → IsWhole x → All IsPair cs → IsWhole (add_in_turn x cs)

abbrev pub JoiningLeavesWhole : Type 0
JoiningLeavesWhole = (bounded : Bool) (x y : Sketch) → IsWhole x → IsLegal y → IsWhole (joined bounded x y)

-- ---- merging under a bound

-- under a bound, what is merged into the gadget of a union of that bound is merged as into the union
abbrev pub JoiningIsMerging : Type 0
JoiningIsMerging = (bound : ℕ) (x y : Sketch) → IsGadget bound x → joined true x y ≡ merge bound x y

-- sketches that are merged in turn under a bound
abbrev pub joined_all : Sketch → List Sketch → Sketch
joined_all x [] = x
joined_all x (y ∷ ys) = joined_all (joined true x y) ys

-- merged in turn into the empty sketch at the bound, they give what a union of that bound gives
abbrev pub JoiningAllIsMergingAll : Type 0
JoiningAllIsMergingAll = (bound : ℕ) (ys : List Sketch) → IsLgK bound → All IsLegal ys → joined_all (empty_sketch bound Hll8) ys ≡ merge_all bound (empty_union bound) ys
