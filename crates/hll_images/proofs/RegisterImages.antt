-- SPDX-License-Identifier: Apache-2.0
-- Lemmas on images of registers that are made from images of registers.
use Rattle.std.proofs.Common.{◌≡◌, ℕ, ◌≤◌, ◌<◌, List, [], ◌∷◌, length, get_or, arith, refl, sym, ap, subst, ◌∙◌}
use Rattle.hll_base.specs.declared.hll_type.HllType.{HllType}
use Rattle.hll_registers.specs.EstimatorFields.{AreEstimatorFields}
use Rattle.hll_registers.specs.Payload.{WritesRegisters}
use Rattle.hll_registers.specs.State.{cleared_state}
use Rattle.hll_registers.specs.Store.{Stored, update_with_coupon}
use Rattle.hll_registers.specs.declared.estimate_state.EstimateState.{EstimateState}
use Rattle.hll_sketch.specs.EstimatorFields.{filled, stays, FillsFields, SetsFieldsIn, HasClearedState}
use Rattle.hll_sketch.specs.Image.{width_bits, width_of_bits}
use Rattle.hll_sketch.specs.Laws.{add_in_turn}
use Rattle.hll_sketch.specs.MergedIn.{IsOfRegisters}
use Rattle.hll_images.specs.RegisterImages.{FillsState, fills, keeps, IsFilledImageOf, IsFilledImageWith}
use Rattle.hll_sketch.specs.Value.{Sketch, registers}
use Rattle.hll_sketch.specs.Written.{Written}
use Rattle.hll_sketch.proofs.Turns.{of_registers, put_in_turn}
use Rattle.std.specs.Prelude.{fold}

-- the registers of an image with this estimate state are its sketch with the fields set
filled_fields : (b : List ℕ) (x : Stored) (t : EstimateState) (of : IsOfRegisters b x) → FillsState x t → FillsFields of.sketch (record of.sketch { content = registers x.registers t })
filled_fields b x t of state = elim state [
  | fills cleared are ↦ filled (subst HasClearedState (sym of.content) cleared) (record {
    lg_k = refl;
    width = refl;
    content = subst (λ c. SetsFieldsIn c (registers x.registers t)) (sym of.content) (t, are, refl);
  })
  | keeps other same ↦ stays (λ cleared. other (subst HasClearedState of.content cleared)) (λ i. record of.sketch { content = (ap (registers x.registers) same ∙ sym of.content) i })
]

-- and this is what is written for that sketch
written_fields : (b image : List ℕ) (width : HllType) (x : Stored) (t : EstimateState) (of : IsOfRegisters b x) → width_of_bits (width_bits b) ≡ width → WritesRegisters image x.lg_k width x.registers t
    → Written image (record of.sketch { content = registers x.registers t })
written_fields b image width x t of has written =
    subst (λ w. WritesRegisters image of.sketch.lg_k w x.registers t) (sym (of.width_is ∙ has)) (subst (λ k. WritesRegisters image k width x.registers t) (sym of.lg_k) written)

-- what is written for the registers of an image, with this estimate state, is its image with the fields set
pub filled_image : (b image : List ℕ) (width : HllType) (x : Stored) (t : EstimateState) → IsOfRegisters b x → width_of_bits (width_bits b) ≡ width → FillsState x t
    → WritesRegisters image x.lg_k width x.registers t → IsFilledImageOf width b image
filled_image b image width x t of has state written = record {
  sketch = of.sketch;
  read = of.read;
  width_is = of.width_is ∙ has;
  filled = record of.sketch { content = registers x.registers t };
  fills = filled_fields b x t of state;
  written = written_fields b image width x t of has written;
}

-- coupons that registers hold change nothing in their sketch
pub held_in_turn : (x : Stored) (y : Sketch) (cs : List ℕ) → y.lg_k ≡ x.lg_k → y.content ≡ registers x.registers x.state → fold update_with_coupon x cs ≡ x → add_in_turn y cs ≡ y
held_in_turn x y cs lg_k content held =
    let as_registers : y ≡ of_registers y.lg_k y.width x = λ i. record y { content = content i } in
    ap (λ z. add_in_turn z cs) as_registers ∙ sym (put_in_turn y.lg_k y.width x cs (sym lg_k)) ∙ ap (of_registers y.lg_k y.width) held ∙ sym as_registers

-- so the image with the fields set is that with the coupons
pub held_image : (b image cs : List ℕ) (width : HllType) (x : Stored) (t : EstimateState) → IsOfRegisters b x → width_of_bits (width_bits b) ≡ width → FillsState x t
    → WritesRegisters image x.lg_k width x.registers t → fold update_with_coupon x cs ≡ x → IsFilledImageWith cs b image
held_image b image cs width x t of has state written held = record {
  sketch = of.sketch;
  read = of.read;
  filled = record of.sketch { content = registers x.registers t };
  fills = subst (λ z. FillsFields z (record of.sketch { content = registers x.registers t })) (sym (held_in_turn x of.sketch cs of.lg_k of.content held)) (filled_fields b x t of state);
  written = written_fields b image width x t of has written;
}

-- a coupon that changes a register clears the state, so its image has the fields of the registers after it
pub raised_image : (b image : List ℕ) (c : ℕ) (width : HllType) (x : Stored) (R : List ℕ) (t : EstimateState) → IsOfRegisters b x → width_of_bits (width_bits b) ≡ width → AreEstimatorFields R t
    → WritesRegisters image x.lg_k width R t → update_with_coupon x c ≡ record { lg_k = x.lg_k; registers = R; state = cleared_state } → IsFilledImageWith (c ∷ []) b image
raised_image b image c width x R t of has are written changed =
    let y : Stored = record { lg_k = x.lg_k; registers = R; state = cleared_state } in
    let k : ℕ = of.sketch.lg_k in
    let w : HllType = of.sketch.width in
    let as_registers : of.sketch ≡ of_registers k w x = λ i. record of.sketch { content = of.content i } in
    let added : add_in_turn of.sketch (c ∷ []) ≡ of_registers k w y =
    ap (λ z. add_in_turn z (c ∷ [])) as_registers ∙ sym (put_in_turn k w x (c ∷ []) (sym of.lg_k)) ∙ ap (of_registers k w) changed in
    record {
      sketch = of.sketch;
      read = of.read;
      filled = record of.sketch { content = registers R t };
      fills = subst (λ z. FillsFields z (record of.sketch { content = registers R t })) (sym added) (filled refl (record { lg_k = refl; width = refl; content = (t, are, refl) }));
      written = subst (λ v. WritesRegisters image k v R t) (sym (of.width_is ∙ has)) (subst (λ n. WritesRegisters image n width R t) (sym of.lg_k) written);
    }

-- a list of one coupon
pub single : (cs : List ℕ) → 1 ≤ length cs → length cs < 2 → get_or cs 0 0 ∷ [] ≡ cs
single [] least most = absurd (omega arith)
single (c ∷ []) least most = refl
single (c ∷ d ∷ cs) least most = absurd (omega arith)
