-- SPDX-License-Identifier: Apache-2.0
-- Lemmas on sketches with their estimator fields.
use Rattle.std.proofs.Common.{◌≡◌, ℕ, false, List, None, refl, sym, ap, subst, ◌∙◌}
use Rattle.std.proofs.lemmas.Bool.{true≢false}
use Rattle.hll_base.specs.declared.hll_type.HllType.{HllType}
use Rattle.hll_registers.specs.declared.estimate_state.EstimateState.{EstimateState}
use Rattle.hll_registers.specs.EstimatorFields.{AreEstimatorFields}
use Rattle.hll_registers.proofs.Binary64.{one_estimator_state}
use Rattle.hll_registers.specs.State.{cleared_state}
use Rattle.hll_sketch.specs.EstimatorFields.{SetsFields, SetsFieldsIn, AreFieldsIn, HasClearedState, FillsFields, stays, cleared, cleared_content, with_state, FieldsKeep, FieldsTwice, HaveSameRegisters, SameRegistersSameBytes}
use Rattle.hll_sketch.specs.Layout.{SketchLayout, Layout, list, set, array, content_in}
use Rattle.hll_sketch.specs.Value.{Sketch, Content, coupons, registers, in_registers, pairs_in, size_in, IsLegal, IsLegalContent, IsLgK, IsEqualContent}
use Rattle.hll_sketch.specs.Written.{Written, HaveSameSize}
use Rattle.hll_sketch.proofs.Written.{same_bytes}

keep_pairs : (x y : Content) → SetsFieldsIn x y → pairs_in y ≡ pairs_in x
keep_pairs (coupons S size) y w = ap pairs_in w
keep_pairs (registers R s) y w = ap pairs_in w.2

keep_size : (k : ℕ) (width : HllType) (x y : Content) → SetsFieldsIn x y → size_in k width y ≡ size_in k width x
keep_size k width (coupons S size) y w = ap (size_in k width) w
keep_size k width (registers R s) y w = ap (size_in k width) w.2

keep_legal : (k : ℕ) (x y : Content) → SetsFieldsIn x y → IsLegalContent k x → IsLegalContent k y
keep_legal k (coupons S size) y w legal = subst (IsLegalContent k) (sym w) legal
keep_legal k (registers R s) y w legal = subst (IsLegalContent k) (sym w.2) (legal.0, w.1.legal)

pub fields_keep : FieldsKeep
fields_keep = record {
  pairs = λ x y w. keep_pairs x.content y.content w.content;
  size = λ x y w. (λ i. size_in (w.lg_k i) (w.width i) y.content) ∙ keep_size x.lg_k x.width x.content y.content w.content;
  legal = λ x y w legal. record {
    lg_k = subst IsLgK (sym w.lg_k) legal.lg_k;
    content = subst (λ k. IsLegalContent k y.content) (sym w.lg_k) (keep_legal x.lg_k x.content y.content w.content legal.content);
  };
}

-- registers with their fields set, whatever the estimate state was before
same_fields : (x y p q : Content) → HaveSameRegisters x y → SetsFieldsIn x p → SetsFieldsIn y q → p ≡ q
same_fields (registers R s) (registers Q t) p q same v w =
    v.2 ∙ (λ i. registers (same i) (one_estimator_state R v.0 w.0 v.1 (subst (λ S. AreEstimatorFields S w.0) (sym same) w.1) i)) ∙ sym w.2
same_fields (registers R s) (coupons T q) p r same v w = absurd same
same_fields (coupons S n) (registers Q t) p q same v w = absurd same
same_fields (coupons S n) (coupons T m) p q same v w = absurd same

again : (x y z : Content) → SetsFieldsIn x y → SetsFieldsIn y z → z ≡ y
again (coupons S size) y z v w = (subst (λ c. SetsFieldsIn c z) v w) ∙ sym v
again (registers R s) y z v w = let u : SetsFieldsIn (registers R v.0) z = subst (λ c. SetsFieldsIn c z) v.2 w in
    u.2 ∙ (λ i. registers R (one_estimator_state R u.0 v.0 u.1 v.1 i)) ∙ sym v.2

pub fields_twice : FieldsTwice
fields_twice x y z v w = λ i. record { lg_k = w.lg_k i; width = w.width i; content = again x.content y.content z.content v.content w.content i }

pub same_fields_of_sketches : (x y p q : Sketch) → x.lg_k ≡ y.lg_k → x.width ≡ y.width → HaveSameRegisters x.content y.content → SetsFields x p → SetsFields y q → p ≡ q
same_fields_of_sketches x y p q k width same v w =
    let lg_k = v.lg_k ∙ k ∙ sym w.lg_k in
    let widths = v.width ∙ width ∙ sym w.width in
    λ i. record { lg_k = lg_k i; width = widths i; content = same_fields x.content y.content p.content q.content same v.content w.content i }

equal_content : (x : Content) → IsEqualContent x x
equal_content (coupons S p) = (refl, (λ e. e, λ e. e))
equal_content (registers R s) = (refl, refl)

same_size : (x : Content) → HaveSameSize x x
same_size (coupons S p) = refl
same_size (registers R s) = tt

-- what is written for a sketch is one list of bytes
pub one_written : (x : Sketch) (a b : List ℕ) → IsLegal x → Written a x → Written b x → a ≡ b
one_written x a b legal u v = (same_bytes x x a b legal legal (same_size x.content) u v).1 (record { lg_k = refl; width = refl; content = equal_content x.content })

pub same_registers_same_bytes : SameRegistersSameBytes
same_registers_same_bytes x y p q a b lx ly k width same v w wa wb =
    one_written p a b (fields_keep.legal x p v lx) wa (subst (Written b) (sym (same_fields_of_sketches x y p q k width same v w)) wb)

-- without fields to set the layout is unchanged
pub same_layout : (x : SketchLayout) → AreFieldsIn (content_in x.layout) None → (s : EstimateState) × (x ≡ record x { layout = with_state x.layout s })
same_layout x h = (cleared_state, λ i. record x { layout = stays x.layout h i })
  where
    stays : (l : Layout) → AreFieldsIn (content_in l) None → l ≡ with_state l cleared_state
    stays (list w t) h = refl
    stays (set w t) h = refl
    stays (array w x e) h = absurd (let both = h.2 in cc)

-- a sketch without registers has no estimate state
no_state : (x : Content) → in_registers x ≡ false → HasClearedState x → ⊥
no_state (coupons S size) out cleared = cleared
no_state (registers R s) out cleared = true≢false out

-- and no fields to set
pub coupons_stay : (x : Sketch) → in_registers x.content ≡ false → FillsFields x x
coupons_stay x out = stays (no_state x.content out) refl

set_in : (c : Content) → in_registers c ≡ false → SetsFieldsIn c c
set_in (coupons S size) out = refl
set_in (registers R s) out = absurd (true≢false out)

pub coupons_are_set : (x : Sketch) → in_registers x.content ≡ false → SetsFields x x
coupons_are_set x out = record { lg_k = refl; width = refl; content = set_in x.content out }

-- nor to clear
cleared_in : (c : Content) → in_registers c ≡ false → cleared_content c ≡ c
cleared_in (coupons S size) out = refl
cleared_in (registers R s) out = absurd (true≢false out)

pub coupons_are_cleared : (x : Sketch) → in_registers x.content ≡ false → x ≡ cleared x
coupons_are_cleared x out = λ i. record x { content = sym (cleared_in x.content out) i }

-- a layout has an estimate state of its own to keep
pub own_layout : (x : SketchLayout) → (s : EstimateState) × (x ≡ record x { layout = with_state x.layout s })
own_layout x = let own = of x.layout in (own.0, λ i. record x { layout = own.1 i })
  where
    of : (l : Layout) → (s : EstimateState) × (l ≡ with_state l s)
    of (list w t) = (cleared_state, refl)
    of (set w t) = (cleared_state, refl)
    of (array w x e) = (x.state, refl)
