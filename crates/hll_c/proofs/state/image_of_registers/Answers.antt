-- SPDX-License-Identifier: Apache-2.0
use Rattle.std.proofs.Common.{◌≡◌, ℕ, List, refl, ap, subst, ◌∙◌}
use Rattle.std.proofs.lemmas.Result.{IfOk-weaker}
use Rattle.hll_base.specs.declared.hll_type.HllType.{HllType}
use Rattle.hll_registers.specs.Payload.{WritesRegisters}
use Rattle.hll_registers.specs.Store.{Stored}
use Rattle.hll_registers.specs.declared.estimate_state.EstimateState.{EstimateState}
use Rattle.hll_sketch.specs.EstimatorFields.{FillsFields, filled, stays}
use Rattle.hll_images.specs.RegisterImages.{FillsState, fills, keeps}
use Rattle.hll_sketch.specs.Value.{Sketch, registers}
use Rattle.hll_c.specs.Answers.{IsImageOf}
use Rattle.hll_c.proofs.state.image_of_registers.Goals as goal

-- the sketch of registers at a width
abbrev sketch : HllType → Stored → Sketch
sketch width x = record { lg_k = x.lg_k; width = width; content = registers x.registers x.state }

-- what is written for registers with this estimate state is their image with the fields set
filled_image : (width : HllType) (x : Stored) (t : EstimateState) (image : List ℕ) → FillsState x t → WritesRegisters image x.lg_k width x.registers t →
    IsImageOf (FillsFields (sketch width x)) image
filled_image width x t image state written =
    let made : Sketch = record { lg_k = x.lg_k; width = width; content = registers x.registers t } in
    let are : FillsFields (sketch width x) made = elim state [
      | fills cleared are ↦ filled cleared (record { lg_k = refl; width = refl; content = (t, are, refl) })
      | keeps other same ↦ stays other (λ i. record { lg_k = x.lg_k; width = width; content = registers x.registers (same i) })
    ] in
    (made, are, written)

pub returns-clause-ok : goal.returns-clause-ok
returns-clause-ok c =
    let width : HllType = c.args.hll_type in
    let x : Stored = record { lg_k = c.args.lg_k; registers = c.args.registers.now; state = c.args.state } in
    let source : c.with_state-source.result ≡ x = c.with_state-source.ensures ∙ ap (λ (y : Stored). let z : Stored = record y { state = c.args.state } in z) c.new.ensures in
    let fills : FillsState x c.filled_state.result = subst (λ y. FillsState y c.filled_state.result) source c.filled_state.ensures in
    IfOk-weaker c.packed_image.result _ (λ image. IsImageOf (FillsFields (sketch width x)) image.items)
    (λ image is. filled_image width x c.filled_state.result image.items fills is) c.packed_image.ensures.ok
