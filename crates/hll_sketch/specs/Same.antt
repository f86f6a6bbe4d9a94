-- SPDX-License-Identifier: Apache-2.0
-- When two sketches are equal (docs/MODEL.md, "Sketch values").
use Rattle.std.specs.Prelude.{◌≡◌, ◌↔◌, ◌&&◌, ℕ, nat_eq, Bool, true, false, refl}
use Rattle.std.proofs.Common.{sym, ap, ◌∙◌, eqb-true, eq-eqb}
use Rattle.std.proofs.lemmas.Bool.{and_parts, and_from}
use Rattle.std.specs.Cmp.{IsPartialEquivalence, IsEquivalence, both_ways, equiv, nat_eq_equiv, on_per, and_per, partial_equiv_from_equiv}
use Rattle.std.specs.Ordering.{on, eq_of_both}
use Rattle.hll_coupons.specs.Pair.{Pairs}
use Rattle.hll_coupons.specs.Table.{coupons_of}
use Rattle.hll_coupons.specs.Same.{have_same_coupons, same_coupons-from, same_coupons-to}
use Rattle.hll_base.specs.declared.hll_type.HllType.{HllType}
use Rattle.hll_base.specs.declared.hll_type.HllType.TheVariants.{Hll4, Hll6, Hll8}
use Rattle.hll_registers.specs.Store.{Stored}
use Rattle.hll_arrays.specs.Same.{same_stored, same_stored-from, same_stored-to}
use Rattle.hll_sketch.specs.Image.{width_of_bits}
use Rattle.hll_sketch.specs.Value.{IsEqual}
use Rattle.hll_sketch.specs.Layout.{Layout, list, set, array, SketchLayout, IsLayoutFor, sketch_of}

-- widths by numbers
abbrev pub number_of_width : HllType → ℕ
number_of_width Hll4 = 0
number_of_width Hll6 = 1
number_of_width Hll8 = 2

same_number : (w : HllType) → width_of_bits (number_of_width w) ≡ w
same_number Hll4 = refl
same_number Hll6 = refl
same_number Hll8 = refl

abbrev pub same_width : HllType → HllType → Bool
same_width w v = nat_eq (number_of_width w) (number_of_width v)

-- the same kind, width and coupons, or the same registers and estimate state
abbrev pub same_layout : Layout → Layout → Bool
same_layout (list w t) (list v u) = same_width w v && have_same_coupons t u
same_layout (set w t) (set v u) = same_width w v && have_same_coupons t u
same_layout (array w x m) (array v y n) = same_width w v && same_stored x y
same_layout _ _ = false

abbrev pub same_sketch : SketchLayout → SketchLayout → Bool
same_sketch = eq_of_both (on (λ x. x.lg_k) nat_eq) (on (λ x. x.layout) same_layout)

-- it is the equality of sketch values
abbrev pub SameIsEqual : Type 0
SameIsEqual = (x y : SketchLayout) → IsLayoutFor x.lg_k x.layout → IsLayoutFor y.lg_k y.layout → (same_sketch x y ≡ true) ↔ IsEqual (sketch_of x) (sketch_of y)

-- ---- what it compares

pub data Key : Type 0 where
  of_list : HllType → Pairs → Key
  of_set : HllType → Pairs → Key
  of_array : HllType → Stored → Key

abbrev pub key : Layout → Key
key (list w t) = of_list w (coupons_of t)
key (set w t) = of_set w (coupons_of t)
key (array w x m) = of_array w x

pub same_width-from : (w v : HllType) → same_width w v ≡ true → w ≡ v
same_width-from w v h = sym (same_number w) ∙ ap width_of_bits (eqb-true _ _ h) ∙ same_number v

pub same_width-to : (w v : HllType) → w ≡ v → same_width w v ≡ true
same_width-to w v e = eq-eqb _ _ (ap number_of_width e)

pub same_layout-from : (x y : Layout) → same_layout x y ≡ true → key x ≡ key y
same_layout-from (list w t) (list v u) h = let e = and_parts (same_width w v) (have_same_coupons t u) h in λ i. of_list (same_width-from w v e.0 i) (same_coupons-from t u e.1 i)
same_layout-from (list w t) (set v u) h = cc
same_layout-from (list w t) (array v y n) h = cc
same_layout-from (set w t) (list v u) h = cc
same_layout-from (set w t) (set v u) h = let e = and_parts (same_width w v) (have_same_coupons t u) h in λ i. of_set (same_width-from w v e.0 i) (same_coupons-from t u e.1 i)
same_layout-from (set w t) (array v y n) h = cc
same_layout-from (array w x m) (list v u) h = cc
same_layout-from (array w x m) (set v u) h = cc
same_layout-from (array w x m) (array v y n) h = let e = and_parts (same_width w v) (same_stored x y) h in λ i. of_array (same_width-from w v e.0 i) (same_stored-from x y e.1 i)

pub same_layout-to : (x y : Layout) → key x ≡ key y → same_layout x y ≡ true
same_layout-to (list w t) (list v u) e =
    let a : w ≡ v = cc in
    let b : coupons_of t ≡ coupons_of u = cc in
    and_from (same_width w v) (have_same_coupons t u) (same_width-to w v a) (same_coupons-to t u b)
same_layout-to (list w t) (set v u) e = cc
same_layout-to (list w t) (array v y n) e = cc
same_layout-to (set w t) (list v u) e = cc
same_layout-to (set w t) (set v u) e =
    let a : w ≡ v = cc in
    let b : coupons_of t ≡ coupons_of u = cc in
    and_from (same_width w v) (have_same_coupons t u) (same_width-to w v a) (same_coupons-to t u b)
same_layout-to (set w t) (array v y n) e = cc
same_layout-to (array w x m) (list v u) e = cc
same_layout-to (array w x m) (set v u) e = cc
same_layout-to (array w x m) (array v y n) e =
    let a : w ≡ v = cc in
    let b : x ≡ y = cc in
    and_from (same_width w v) (same_stored x y) (same_width-to w v a) (same_stored-to x y b)

-- so it is an equivalence
pub same_sketch-from : (x y : SketchLayout) → same_sketch x y ≡ true → (x.lg_k ≡ y.lg_k) × (key x.layout ≡ key y.layout)
same_sketch-from x y h = let e = and_parts (nat_eq x.lg_k y.lg_k) (same_layout x.layout y.layout) h in (eqb-true x.lg_k y.lg_k e.0, same_layout-from x.layout y.layout e.1)

pub same_sketch-to : (x y : SketchLayout) → x.lg_k ≡ y.lg_k → key x.layout ≡ key y.layout → same_sketch x y ≡ true
same_sketch-to x y k e = and_from (nat_eq x.lg_k y.lg_k) (same_layout x.layout y.layout) (eq-eqb x.lg_k y.lg_k k) (same_layout-to x.layout y.layout e)

pub same_layout-partial : IsPartialEquivalence same_layout
same_layout-partial = record {
  symm = λ x y. both_ways _ _ (λ h. same_layout-to y x (sym (same_layout-from x y h))) (λ h. same_layout-to x y (sym (same_layout-from y x h)));
  trans = λ x y z h k. same_layout-to x z (same_layout-from x y h ∙ same_layout-from y z k);
}

pub same_sketch-partial : IsPartialEquivalence same_sketch
same_sketch-partial = and_per (on_per (λ x. x.lg_k) (partial_equiv_from_equiv nat_eq_equiv)) (on_per (λ x. x.layout) same_layout-partial)

pub same_sketch-equivalence : IsEquivalence same_sketch
same_sketch-equivalence = equiv same_sketch-partial (λ x. same_sketch-to x x refl refl)
