-- SPDX-License-Identifier: Apache-2.0
-- Sketches with their estimator fields (docs/MODEL.md, "Estimator fields").
use Rattle.std.specs.Prelude.{◌≡◌, ℕ, List, Option, Some, None}
use Rattle.hll_registers.specs.declared.estimate_state.EstimateState.{EstimateState}
use Rattle.hll_registers.specs.EstimatorFields.{AreEstimatorFields}
use Rattle.hll_registers.specs.State.{cleared_state}
use Rattle.hll_sketch.specs.Layout.{Layout, list, set, array}
use Rattle.hll_sketch.specs.Value.{Sketch, Content, coupons, registers, IsLegal, pairs_of, size_of}
use Rattle.hll_sketch.specs.Written.{Written}

-- registers keep their values, and their estimate state becomes the one with their estimator fields; coupons are unchanged
abbrev pub SetsFieldsIn : Content → Content → Type 0
SetsFieldsIn (coupons S size) new = new ≡ coupons S size
SetsFieldsIn (registers R s) new = (t : EstimateState) × AreEstimatorFields R t × (new ≡ registers R t)

-- the estimate state with the estimator fields of the registers; `None` for coupons
abbrev pub AreFieldsIn : Content → Option EstimateState → Type 0
AreFieldsIn (coupons S size) state = state ≡ None
AreFieldsIn (registers R s) state = (t : EstimateState) × AreEstimatorFields R t × (state ≡ Some t)

-- the new sketch is the old one with its estimator fields set
pub record SetsFields (old new : Sketch) : Type 0 where
  pub lg_k : new.lg_k ≡ old.lg_k
  pub width : new.width ≡ old.width
  pub content : SetsFieldsIn old.content new.content

-- registers whose estimate state is cleared
abbrev pub HasClearedState : Content → Type 0
HasClearedState (coupons S size) = ⊥
HasClearedState (registers R s) = s ≡ cleared_state

-- the new sketch is the old one, with its estimator fields set if its estimate state was cleared
pub data FillsFields (old new : Sketch) : Type 0 where
  filled : HasClearedState old.content → SetsFields old new → FillsFields old new
  stays : (HasClearedState old.content → ⊥) → new ≡ old → FillsFields old new

-- registers keep their values, and their estimate state is cleared; coupons are unchanged
abbrev pub cleared_content : Content → Content
cleared_content (coupons S size) = coupons S size
cleared_content (registers R s) = registers R cleared_state

-- the sketch with its estimate state cleared
abbrev pub cleared : Sketch → Sketch
cleared x = record x { content = cleared_content x.content }

-- the layout with this estimate state; tables have none, and are unchanged
abbrev pub with_state : Layout → EstimateState → Layout
with_state (list width t) s = list width t
with_state (set width t) s = set width t
with_state (array width x e) s = array width (record x { state = s }) e

-- ---- laws

-- pairs and size are unchanged, and a legal sketch is still legal
pub record FieldsKeep : Type 0 where
  pub pairs : (x y : Sketch) → SetsFields x y → pairs_of y ≡ pairs_of x
  pub size : (x y : Sketch) → SetsFields x y → size_of y ≡ size_of x
  pub legal : (x y : Sketch) → SetsFields x y → IsLegal x → IsLegal y

-- done twice is done once
abbrev pub FieldsTwice : Type 0
FieldsTwice = (x y z : Sketch) → SetsFields x y → SetsFields y z → z ≡ y

-- both have registers, and these are the same
abbrev pub HaveSameRegisters : Content → Content → Type 0
HaveSameRegisters (registers R s) (registers Q t) = R ≡ Q
HaveSameRegisters (registers R s) (coupons T q) = ⊥
HaveSameRegisters (coupons S p) (registers Q t) = ⊥
HaveSameRegisters (coupons S p) (coupons T q) = ⊥

-- sketches of the same lg_k and width with the same registers, whatever their estimate states are, have the same bytes once
-- their fields are set
abbrev pub SameRegistersSameBytes : Type 0
SameRegistersSameBytes = (x y p q : Sketch) (a b : List ℕ) → IsLegal x → IsLegal y → x.lg_k ≡ y.lg_k → x.width ≡ y.width → HaveSameRegisters x.content y.content →
    SetsFields x p → SetsFields y q → Written a p → Written b q → a ≡ b
