-- SPDX-License-Identifier: Apache-2.0
-- Caller-owned registers, one byte each (docs/MODEL.md, "Caller-owned registers").
use Rattle.std.specs.Prelude.{◌≡◌, ℕ, ◌≤◌, ◌<◌, true, false, List, Option, Some, None}
use Rattle.hll_base.specs.Join.{join}
use Rattle.hll_base.specs.declared.hll_type.HllType.{HllType}
use Rattle.hll_base.specs.declared.hll_type.HllType.TheVariants.{Hll8}
use Rattle.hll_coupons.specs.Fold.{fold_to}
use Rattle.hll_kernels.specs.Packed.{AreRegisters}
use Rattle.hll_registers.specs.declared.estimate_state.EstimateState.{EstimateState}
use Rattle.hll_registers.specs.EstimatorFields.{AreEstimatorFields}
use Rattle.hll_sketch.specs.Checks.{size_fault}
use Rattle.hll_sketch.specs.EstimatorFields.{SetsFields}
use Rattle.hll_sketch.specs.Image.{IsReadAs}
use Rattle.hll_sketch.specs.Merging.{merge}
use Rattle.hll_sketch.specs.MergedIn.{HasCompactCoupons, HasPlainRegisters}
use Rattle.hll_sketch.specs.Updatable.{HasUpdatableCoupons}
use Rattle.hll_sketch.specs.Value.{Sketch, registers, is_empty, pairs_of, has_nonzero_registers}

-- A sketch is merged into 2^k registers: they become the maximum of their old values and of the registers that its pairs fold
-- to at k. If it has registers itself that are not all 0, and fewer of them, nothing changes, and the result is its lg_k.
pub data TakesMaxWithSketch (k : ℕ) (x : Sketch) (old new : List ℕ) : Option ℕ → Type 0 where
  takes_max : (has_nonzero_registers x ≡ true → k ≤ x.lg_k) → new ≡ join old (fold_to (pairs_of x) k) → TakesMaxWithSketch k x old new None
  has_fewer : {e : ℕ} → has_nonzero_registers x ≡ true → x.lg_k < k → e ≡ x.lg_k → new ≡ old → TakesMaxWithSketch k x old new (Some e)

-- `TakesMaxWithSketch` for the sketch that an image is read as
pub record TakesMaxWithImage (k : ℕ) (image old new : List ℕ) (answer : Option ℕ) : Type 0 where
  pub sketch : Sketch
  pub read : IsReadAs image sketch
  pub is : TakesMaxWithSketch k sketch old new answer

-- Reading an image, or merging it into registers, may need an allocation only if its header, counts and length are right. It needs
-- none for compact coupons that ascend or are few, for an updatable image of few coupons, for 8-bit or 6-bit registers, and for
-- 4-bit registers without exceptions.
pub record ReadNeedsMemory (b : List ℕ) : Type 0 where
  pub sized : size_fault b ≡ None
  pub coupons : HasCompactCoupons b → ⊥
  pub buckets : HasUpdatableCoupons b → ⊥
  pub registers : HasPlainRegisters b → ⊥

-- the bytes are read as a sketch whose pairs fold to these registers at its lg_k
pub record AreRegistersOf (b : List ℕ) (k : ℕ) (R : List ℕ) : Type 0 where
  pub sketch : Sketch
  pub read : IsReadAs b sketch
  pub lg_k : sketch.lg_k ≡ k
  pub are : R ≡ fold_to (pairs_of sketch) k

-- a sketch of these registers, with its estimator fields set
pub record HasFieldsOf (k : ℕ) (width : HllType) (R : List ℕ) (y : Sketch) : Type 0 where
  pub lg_k : y.lg_k ≡ k
  pub width_is : y.width ≡ width
  pub state : EstimateState
  pub fields : AreEstimatorFields R state
  pub content : y.content ≡ registers R state

-- ---- laws

-- If registers are not all 0, then after a sketch is merged into them they are those of the union of a sketch of them with that
-- sketch.
abbrev pub MaxIsUnion : Type 0
MaxIsUnion = (k : ℕ) (R new : List ℕ) (s : EstimateState) (x y : Sketch) → AreRegisters k R → k ≤ 21 →
    let g : Sketch = record { lg_k = k; width = Hll8; content = registers R s } in
    is_empty g ≡ false → TakesMaxWithSketch k x R new None → SetsFields (merge k g x) y → HasFieldsOf k Hll8 new y
