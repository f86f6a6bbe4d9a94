-- SPDX-License-Identifier: Apache-2.0
-- Images of registers that are made from images of registers (docs/MODEL.md, "Estimator fields").
use Rattle.std.specs.Prelude.{◌≡◌, ℕ, ◌≤◌, List, None}
use Rattle.hll_base.specs.declared.hll_type.HllType.{HllType}
use Rattle.hll_registers.specs.EstimatorFields.{AreEstimatorFields}
use Rattle.hll_registers.specs.State.{cleared_state}
use Rattle.hll_registers.specs.Store.{Stored}
use Rattle.hll_registers.specs.declared.estimate_state.EstimateState.{EstimateState}
use Rattle.hll_sketch.specs.Checks.{first_fault}
use Rattle.hll_sketch.specs.EstimatorFields.{FillsFields}
use Rattle.hll_sketch.specs.Image.{IsReadAs, stage_bits, width_bits}
use Rattle.hll_sketch.specs.Laws.{add_in_turn}
use Rattle.hll_sketch.specs.Value.{Sketch}
use Rattle.hll_sketch.specs.Written.{Written}

-- the bytes begin with an image of 8-bit or 6-bit registers
abbrev pub IsPlainImage : List ℕ → Type 0
IsPlainImage b = (first_fault b ≡ None) × (stage_bits b ≡ 2) × (1 ≤ width_bits b)

-- the estimate state of registers, or, if that is cleared, the one with their estimator fields
pub data FillsState (x : Stored) (state : EstimateState) : Type 0 where
  fills : x.state ≡ cleared_state → AreEstimatorFields x.registers state → FillsState x state
  keeps : (x.state ≡ cleared_state → ⊥) → state ≡ x.state → FillsState x state

-- the bytes are what is written for the sketch that an image is read as, which has this width, with its estimator fields set if
-- its estimate state is cleared
pub record IsFilledImageOf (width : HllType) (image bytes : List ℕ) : Type 0 where
  pub sketch : Sketch
  pub read : IsReadAs image sketch
  pub width_is : sketch.width ≡ width
  pub filled : Sketch
  pub fills : FillsFields sketch filled
  pub written : Written bytes filled

-- the bytes are what is written for the sketch that an image is read as, with coupons added in turn, and then with its estimator
-- fields set if its estimate state is cleared
pub record IsFilledImageWith (added image bytes : List ℕ) : Type 0 where
  pub sketch : Sketch
  pub read : IsReadAs image sketch
  pub filled : Sketch
  pub fills : FillsFields (add_in_turn sketch added) filled
  pub written : Written bytes filled
