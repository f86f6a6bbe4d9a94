-- SPDX-License-Identifier: Apache-2.0
-- Sketches whose registers have a plain estimate state: cleared, or with the estimator fields set
-- (docs/MODEL.md, "Estimator fields").
use Rattle.std.specs.Prelude.{◌≡◌, ℕ, ◌⊎◌, List, map}
use Rattle.std.specs.List.{AllByRecursion}
use Rattle.hll_registers.specs.EstimatorFields.{AreEstimatorFields}
use Rattle.hll_registers.specs.State.{cleared_state}
use Rattle.hll_sketch.specs.EstimatorFields.{FillsFields, cleared}
use Rattle.hll_sketch.specs.Merging.{merge_all, empty_union}
use Rattle.hll_sketch.specs.Value.{Sketch, Content, coupons, registers, IsLgK, IsLegal}

-- the estimate state of registers is cleared, or has their estimator fields; coupons have none
abbrev pub HasPlainState : Content → Type 0
HasPlainState (coupons S size) = Unit {0}
HasPlainState (registers R s) = (s ≡ cleared_state) ⊎ AreEstimatorFields R s

pub record IsPlain (x : Sketch) : Type 0 where
  pub legal : IsLegal x
  pub state : HasPlainState x.content

-- ---- laws

-- Sketches with plain states, merged in turn, give the same union as with their states cleared, once the estimator fields of
-- both unions are set. So the laws of canonical sketches hold for them too.
abbrev pub UnionOfPlain : Type 0
UnionOfPlain = (m : ℕ) (xs : List Sketch) (y z : Sketch) → IsLgK m → AllByRecursion IsPlain xs →
    FillsFields (merge_all m (empty_union m) xs) y → FillsFields (merge_all m (empty_union m) (map cleared xs)) z → y ≡ z

-- a sketch with a plain state still has one once its fields are set
abbrev pub FilledIsPlain : Type 0
FilledIsPlain = (x y : Sketch) → FillsFields x y → IsPlain x → IsPlain y
