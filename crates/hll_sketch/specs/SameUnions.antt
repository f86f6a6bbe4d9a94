-- SPDX-License-Identifier: Apache-2.0
-- Unions of canonical sketches have the same bytes, however the sketches are ordered, repeated and grouped
-- (docs/MODEL.md, "Convergence").
use Rattle.std.specs.Prelude.{◌≡◌, ℕ, List, ◌∷◌, ◌++◌, map}
use Rattle.std.specs.List.{AllByRecursion}
use Rattle.hll_base.specs.declared.hll_type.HllType.{HllType}
use Rattle.hll_sketch.specs.Canonical.{IsCanonical}
use Rattle.hll_sketch.specs.EstimatorFields.{FillsFields, cleared}
use Rattle.hll_sketch.specs.Joined.{SameMembers}
use Rattle.hll_sketch.specs.Merging.{merge_all, empty_union}
use Rattle.hll_sketch.specs.Value.{Sketch, IsLgK, IsLegal}
use Rattle.hll_sketch.specs.Written.{Written}

-- a legal sketch whose coupons have the smallest table that holds them, or whose estimator fields are cleared or set
pub record IsLegalCanonical (x : Sketch) : Type 0 where
  pub legal : IsLegal x
  pub canonical : IsCanonical x

-- the union of sketches under a bound, at a width, with its estimator fields set if its estimate state is cleared
abbrev pub IsFilledUnion : ℕ → HllType → List Sketch → Sketch → Type 0
IsFilledUnion bound width xs y = FillsFields (record (merge_all bound (empty_union bound) xs) { width = width }) y

-- ---- laws

-- unions under one bound of the same canonical sketches, in any order and however often each was merged, and whether their
-- estimator fields are cleared or set, have the same bytes at each width
abbrev pub UnionsInAnyOrder : Type 0
UnionsInAnyOrder = (bound : ℕ) (width : HllType) (xs ys : List Sketch) (y z : Sketch) (a b : List ℕ) →
    IsLgK bound → AllByRecursion IsLegalCanonical xs → AllByRecursion IsLegalCanonical ys → SameMembers (map cleared xs) (map cleared ys) →
    IsFilledUnion bound width xs y → IsFilledUnion bound width ys z → Written a y → Written b z → a ≡ b

-- some canonical sketches may be merged first, under the same bound and at any width: the bytes are the same
abbrev pub UnionsInGroups : Type 0
UnionsInGroups = (bound : ℕ) (first width : HllType) (xs ys : List Sketch) (x y z : Sketch) (a b : List ℕ) →
    IsLgK bound → AllByRecursion IsLegalCanonical xs → AllByRecursion IsLegalCanonical ys → IsFilledUnion bound first ys x →
    IsFilledUnion bound width (x ∷ xs) y → IsFilledUnion bound width (ys ++ xs) z → Written a y → Written b z → a ≡ b

-- the union of canonical sketches is canonical
abbrev pub UnionsAreCanonical : Type 0
UnionsAreCanonical = (bound : ℕ) (width : HllType) (xs : List Sketch) (y : Sketch) →
    IsLgK bound → AllByRecursion IsLegalCanonical xs → IsFilledUnion bound width xs y → IsLegalCanonical y
