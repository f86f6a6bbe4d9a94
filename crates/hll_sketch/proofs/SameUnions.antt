-- SPDX-License-Identifier: Apache-2.0
-- Unions of canonical sketches have the same bytes, however the sketches are ordered, repeated and grouped.
use Rattle.std.proofs.Common.{◌≡◌, ℕ, List, [], ◌∷◌, ◌++◌, map, refl, sym, ap, subst, ◌∙◌}
use Rattle.std.specs.List.{AllByRecursion, list_any}
use Rattle.hll_base.specs.declared.hll_type.HllType.{HllType}
use Rattle.hll_sketch.specs.Canonical.{IsCanonicalContent, IsCanonicalClearedContent, IsCanonicalCleared}
use Rattle.hll_sketch.specs.EstimatorFields.{SetsFieldsIn, FillsFields, filled, stays, cleared_content, cleared}
use Rattle.hll_sketch.specs.Joined.{all_pairs, least_lg_k, join_value, IsCanonicalOfPairs}
use Rattle.hll_sketch.specs.Merging.{merge_all, empty_union}
use Rattle.hll_sketch.specs.PlainStates.{HasPlainState, IsPlain}
use Rattle.hll_sketch.specs.SameUnions.{IsLegalCanonical, IsFilledUnion, UnionsInAnyOrder, UnionsInGroups, UnionsAreCanonical}
use Rattle.hll_sketch.specs.Value.{Sketch, Content, coupons, registers, has_nonzero_registers, pairs_in, ArePairs, IsLgK, IsLegal}
use Rattle.hll_sketch.specs.Written.{Written}
use Rattle.hll_sketch.proofs.Joined.{merge_at_width, IsCanonicalCleared-join_value_of_pairs}
use Rattle.hll_sketch.proofs.LegalSketches.{pairs_are}
use Rattle.hll_sketch.proofs.PlainUnions.{IsPlainGadget, all_plain, empty_plain, fills_cleared, one_filled, filled_is_plain}
use Rattle.hll_sketch.proofs.Regrouping.{union_of_same, union_of_union}
use Rattle.hll_sketch.proofs.SetFields.{one_written}

-- ---- one canonical sketch

plain_canonical : (x : Sketch) → IsLegalCanonical x → IsPlain x
plain_canonical x is = record { legal = is.legal; state = of x.lg_k x.content is.canonical }
  where
    of : (k : ℕ) (c : Content) → IsCanonicalContent k c → HasPlainState c
    of k (coupons S size) h = tt
    of k (registers R s) h = h

cleared_canonical : (x : Sketch) → IsLegalCanonical x → IsCanonicalOfPairs (cleared x)
cleared_canonical x is = record {
  small = is.legal.lg_k.high;
  are = same x.content (pairs_are x.lg_k x.content is.legal.lg_k.high is.legal.content);
  canonical = of x.lg_k x.content is.canonical;
}
  where
    same : (c : Content) → ArePairs (pairs_in c) → ArePairs (pairs_in (cleared_content c))
    same (coupons S size) h = h
    same (registers R s) h = h

    of : (k : ℕ) (c : Content) → IsCanonicalContent k c → IsCanonicalClearedContent k (cleared_content c)
    of k (coupons S size) h = h
    of k (registers R s) h = refl

-- with plain fields a sketch is canonical if it is so with cleared ones
canonical_from : (k : ℕ) (c : Content) → HasPlainState c → IsCanonicalClearedContent k (cleared_content c) → IsCanonicalContent k c
canonical_from k (coupons S size) plain h = h
canonical_from k (registers R s) plain h = plain

cleared_itself : (x : Sketch) → IsCanonicalCleared x → cleared x ≡ x
cleared_itself x is = ap (λ c. let y : Sketch = record x { content = c } in y) (of x.lg_k x.content is)
  where
    of : (k : ℕ) (c : Content) → IsCanonicalClearedContent k c → cleared_content c ≡ c
    of k (coupons S size) h = refl
    of k (registers R s) h = ap (registers R) (sym h)

-- setting the fields changes the estimate state alone
fills_keep : (x y : Sketch) → FillsFields x y → cleared y ≡ cleared x
fills_keep x y (filled c sets) = λ i. record { lg_k = sets.lg_k i; width = sets.width i; content = of x.content y.content sets.content i }
  where
    of : (c d : Content) → SetsFieldsIn c d → cleared_content d ≡ cleared_content c
    of (coupons S size) d h = ap cleared_content h
    of (registers R s) d h = ap cleared_content h.2
fills_keep x y (stays n e) = ap cleared e

-- ---- lists

all_are_plain : (xs : List Sketch) → AllByRecursion IsLegalCanonical xs → AllByRecursion IsPlain xs
all_are_plain [] each = tt
all_are_plain (x ∷ xs) each = (plain_canonical x each.0, all_are_plain xs each.1)

all_cleared : (xs : List Sketch) → AllByRecursion IsLegalCanonical xs → AllByRecursion IsCanonicalOfPairs (map cleared xs)
all_cleared [] each = tt
all_cleared (x ∷ xs) each = (cleared_canonical x each.0, all_cleared xs each.1)

both_lists : (xs ys : List Sketch) → AllByRecursion IsLegalCanonical xs → AllByRecursion IsLegalCanonical ys → AllByRecursion IsLegalCanonical (xs ++ ys)
both_lists [] ys each all = all
both_lists (x ∷ xs) ys each all = (each.0, both_lists xs ys each.1 all)

cleared_lists : (xs ys : List Sketch) → map cleared (xs ++ ys) ≡ map cleared xs ++ map cleared ys
cleared_lists [] ys = refl
cleared_lists (x ∷ xs) ys = ap (λ zs. cleared x ∷ zs) (cleared_lists xs ys)

-- ---- a union, by its `join_value`

canonical_union : (m : ℕ) (w : HllType) (xs : List Sketch) → IsCanonicalCleared (join_value m w xs)
canonical_union m w xs = IsCanonicalCleared-join_value_of_pairs m w (least_lg_k m xs) (all_pairs xs) (list_any has_nonzero_registers xs)

module _ (m : ℕ) (w : HllType) (xs : List Sketch) (y : Sketch) (is : IsLgK m) (each : AllByRecursion IsLegalCanonical xs) (fills : IsFilledUnion m w xs y) where
  abbrev g : Sketch
  g = merge_all m (empty_union m) xs

  merged : IsPlainGadget m g × (cleared g ≡ merge_all m (empty_union m) (map cleared xs))
  merged = all_plain m (empty_union m) xs (empty_plain m is) (all_are_plain xs each)

  -- it is filled as the `join_value` of the sketches with cleared fields is
  filled_value : FillsFields (join_value m w (map cleared xs)) y
  filled_value = subst (λ (h : Sketch). FillsFields h y)
      (ap (λ (h : Sketch). let z : Sketch = record h { width = w } in z) merged.1 ∙ merge_at_width m w (map cleared xs) is.high (all_cleared xs each))
      (fills_cleared g.lg_k w g.content y merged.0.state fills)

  cleared_value : cleared y ≡ join_value m w (map cleared xs)
  cleared_value = let z : Sketch = join_value m w (map cleared xs) in fills_keep z y filled_value ∙ cleared_itself z (canonical_union m w (map cleared xs))

  canonical_value : IsLegalCanonical y
  canonical_value =
      let at : Sketch = record g { width = w } in
      let plain : IsPlain y = filled_is_plain at y fills (record { legal = record { lg_k = merged.0.legal.lg_k; content = merged.0.legal.content }; state = merged.0.state }) in
      record {
        legal = plain.legal;
        canonical = canonical_from y.lg_k y.content plain.state (subst IsCanonicalCleared (sym cleared_value) (canonical_union m w (map cleared xs)));
      }

pub unions_are_canonical : UnionsAreCanonical
unions_are_canonical m w xs y is each fills = canonical_value m w xs y is each fills

-- sketches that are filled as one is have the same bytes
same_filled : (x y z : Sketch) (a b : List ℕ) → FillsFields x y → FillsFields x z → IsLegal z → Written a y → Written b z → a ≡ b
same_filled x y z a b here there legal u v = one_written z a b legal (subst (Written a) (one_filled x y z here there) u) v

pub unions_in_any_order : UnionsInAnyOrder
unions_in_any_order m w xs ys y z a b is each all same here there u v =
    same_filled (join_value m w (map cleared xs)) y z a b (filled_value m w xs y is each here)
    (subst (λ (h : Sketch). FillsFields h z) (sym (union_of_same m w (map cleared xs) (map cleared ys) same)) (filled_value m w ys z is all there))
    (canonical_value m w ys z is all there).legal u v

pub unions_in_groups : UnionsInGroups
unions_in_groups m v w xs ys x y z a b is each all inner here there u o =
    let both : AllByRecursion IsLegalCanonical (ys ++ xs) = both_lists ys xs all each in
    let same : join_value m w (map cleared (x ∷ xs)) ≡ join_value m w (map cleared (ys ++ xs)) =
    ap (λ (h : Sketch). join_value m w (h ∷ map cleared xs)) (cleared_value m v ys x is all inner)
    ∙ union_of_union m v w (map cleared xs) (map cleared ys) is.high (all_cleared ys all)
    ∙ ap (join_value m w) (sym (cleared_lists ys xs)) in
    same_filled (join_value m w (map cleared (x ∷ xs))) y z a b
    (filled_value m w (x ∷ xs) y is (canonical_value m v ys x is all inner, each) here)
    (subst (λ (h : Sketch). FillsFields h z) (sym same) (filled_value m w (ys ++ xs) z is both there))
    (canonical_value m w (ys ++ xs) z is both there).legal u o
