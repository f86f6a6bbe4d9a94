-- SPDX-License-Identifier: Apache-2.0
-- Registers into which a sketch is merged are those of the union of both.
use Rattle.std.proofs.Common.{◌≡◌, ℕ, ◌≤◌, ◌&&◌, true, false, nat_eq, List, refl, sym, ap, subst, ◌∙◌, inl, inr}
use Rattle.std.proofs.lemmas.Bool.{cases_Bool, cond-true, cond-false, eqb-true}
use Rattle.hll_base.specs.Join.{join}
use Rattle.hll_base.specs.declared.hll_type.HllType.{HllType}
use Rattle.hll_base.specs.declared.hll_type.HllType.TheVariants.{Hll8}
use Rattle.hll_coupons.specs.Fold.{fold_to}
use Rattle.hll_kernels.specs.Packed.{AreRegisters}
use Rattle.hll_registers.specs.declared.estimate_state.EstimateState.{EstimateState}
use Rattle.hll_registers.specs.State.{cleared_state, state_after}
use Rattle.hll_sketch.specs.Adding.{add}
use Rattle.hll_sketch.specs.EstimatorFields.{SetsFields, SetsFieldsIn}
use Rattle.hll_sketch.specs.ByteRegisters.{takes_max, HasFieldsOf, MaxIsUnion}
use Rattle.hll_sketch.specs.Merging.{merge, merge_content, max_registers}
use Rattle.hll_sketch.specs.Value.{Sketch, Content, coupons, registers, is_empty, pairs_in, pairs_of, has_nonzero_registers}
use Rattle.hll_sketch.proofs.MaxBytes.{joined-none, registers_nonzero}
use Rattle.hll_sketch.proofs.Merges.{maxed_in_place, state_gone}

module _ (k : ℕ) (R new : List ℕ) (s : EstimateState) (are : AreRegisters k R) (small : k ≤ 21) where
  abbrev own : Sketch
  own = record { lg_k = k; width = Hll8; content = registers R s }

  -- a sketch of the new registers, in some estimate state
  abbrev IsNew : Sketch → Type 0
  IsNew y = (t : EstimateState) × (y ≡ record { lg_k = k; width = Hll8; content = registers new t })

  merged_as : (l : ℕ) (w : HllType) (c : Content) → let x : Sketch = record { lg_k = l; width = w; content = c } in
      is_empty own ≡ false → is_empty x ≡ false → (has_nonzero_registers x ≡ true → k ≤ l) → new ≡ join R (fold_to (pairs_in c) k) → IsNew (merge_content k own x c)
  merged_as l w (coupons S size) some there within is =
      let x : Sketch = record { lg_k = l; width = w; content = coupons S size } in
      let y : Sketch = record own { content = coupons S size } in (
        state_after R (join R (fold_to S k)) s,
        cond-false (is_empty own && nat_eq k l) y (add own S) (ap (λ b. b && nat_eq k l) some)
            ∙ (λ i. record { lg_k = k; width = Hll8; content = registers (sym is i) (state_after R (join R (fold_to S k)) s) }),
      )
  merged_as l w (registers Q t) some there within is =
      let x : Sketch = record { lg_k = l; width = w; content = registers Q t } in (
        cleared_state,
        ap (max_registers own l Q) (sym (state_gone k own l t some))
            ∙ sym (maxed_in_place own (record { lg_k = k; registers = R; state = s }) l Q refl refl small are.size (within (registers_nonzero x refl there)))
            ∙ (λ i. record { lg_k = k; width = Hll8; content = registers (sym is i) cleared_state }),
      )

  merged_new : (x : Sketch) → is_empty own ≡ false → (has_nonzero_registers x ≡ true → k ≤ x.lg_k) → new ≡ join R (fold_to (pairs_of x) k) → IsNew (merge k own x)
  merged_new x some within is = elim (cases_Bool (is_empty x)) [
    | inl none ↦
        let same : R ≡ new = joined-none R (pairs_of x) k are.size (eqb-true _ 0 none) ∙ sym is in
        (s, cond-true (is_empty x) own (merge_content k own x x.content) none ∙ (λ i. record { lg_k = k; width = Hll8; content = registers (same i) s }))
    | inr there ↦
        let found : IsNew (merge_content k own x x.content) = merged_as x.lg_k x.width x.content some there within is in
        (found.0, cond-false (is_empty x) own (merge_content k own x x.content) there ∙ found.1)
  ]

  worded : (z y : Sketch) → IsNew z → SetsFields z y → HasFieldsOf k Hll8 new y
  worded z y found sets =
      let t : EstimateState = found.0 in
      let z' : Sketch = record { lg_k = k; width = Hll8; content = registers new t } in
      let set : SetsFields z' y = subst (λ v. SetsFields v y) found.1 sets in
      let content : SetsFieldsIn (registers new t) y.content = set.content in
      record { lg_k = set.lg_k; width_is = set.width; state = content.0; fields = content.1; content = content.2 }

pub max_is_union : MaxIsUnion
max_is_union k R new s x y are small some (takes_max within is) sets =
    worded k R new s are small (merge k (own k R new s are small) x) y (merged_new k R new s are small x some within is) sets
