-- SPDX-License-Identifier: Apache-2.0
-- What calls make of the canonical sketch of an image is canonical (docs/MODEL.md, "Convergence").
use Rattle.std.specs.Prelude.{ℕ, List}
use Rattle.hll_base.specs.declared.hll_type.HllType.{HllType}
use Rattle.hll_sketch.specs.Canonical.{IsCanonical}
use Rattle.hll_sketch.specs.EstimatorFields.{SetsFields, FillsFields, cleared}
use Rattle.hll_sketch.specs.Folding.{folded}
use Rattle.hll_sketch.specs.Laws.{add_in_turn}
use Rattle.hll_sketch.specs.Value.{Sketch, IsLegal}

-- a canonical sketch stays canonical if coupons are added, if it is folded, if its width changes, and if its estimator fields are
-- set or cleared. The first three fill in fields that are cleared
pub record CallsKeepCanonical : Type 0 where
  pub adding : (x y : Sketch) (cs : List ℕ) → IsCanonical x → FillsFields (add_in_turn x cs) y → IsCanonical y
  pub folding : (x y : Sketch) (e : ℕ) → IsLegal x → IsCanonical x → FillsFields (folded x e) y → IsCanonical y
  pub converting : (x y : Sketch) (width : HllType) → IsCanonical x → FillsFields (record x { width = width }) y → IsCanonical y
  pub setting : (x y : Sketch) → IsCanonical x → SetsFields x y → IsCanonical y
  pub clearing : (x : Sketch) → IsCanonical x → IsCanonical (cleared x)
