-- SPDX-License-Identifier: Apache-2.0
-- Unions of sketches with plain estimate states.
use Rattle.std.proofs.Common.{◌≡◌, ℕ, inl, inr, ◌^◌, ◌≤◌, Bool, true, false, cond, ◌&&◌, nat_eq, leb, min, List, [], ◌∷◌, length, map, Option, Some, None, refl, sym, ap, subst, ◌∙◌, arith}
use Rattle.std.specs.FinSet.{union, len, contains-empty, len-empty}
use Rattle.std.specs.List.{AllByRecursion}
use Rattle.std.specs.Ordering.{nat_cmp}
use Rattle.std.specs.Cmp.Lexicographic.{pointwise}
use Rattle.std.proofs.lemmas.Bool.{cond-true, cond-false, and_parts, leb-true, true≢false}
use Rattle.hll_base.specs.Join.{join}
use Rattle.hll_base.specs.declared.hll_type.HllType.{HllType}
use Rattle.hll_coupons.specs.Fold.{fold_to, pairs}
use Rattle.hll_coupons.specs.Pair.{Pairs}
use Rattle.hll_registers.proofs.States.{same_decides, state_after-cleared_state}
use Rattle.hll_registers.specs.State.{cleared_state}
use Rattle.hll_registers.specs.declared.estimate_state.EstimateState.{EstimateState}
use Rattle.hll_sketch.specs.Adding.{content_for, content_with, add}
use Rattle.hll_sketch.specs.EstimatorFields.{HasClearedState, HaveSameRegisters, SetsFieldsIn, FillsFields, filled, stays, cleared_content, cleared}
use Rattle.hll_sketch.specs.Merging.{merge, merge_all, merge_coupons, merge_registers, merge_content, state_after_merge, empty_union}
use Rattle.hll_sketch.specs.PlainStates.{HasPlainState, IsPlain, UnionOfPlain, FilledIsPlain}
use Rattle.hll_sketch.specs.Stage.{stage}
use Rattle.hll_sketch.specs.Union.{IsGadget}
use Rattle.hll_sketch.specs.Value.{Sketch, Content, coupons, registers, in_registers, pairs_in, is_empty, IsLgK, IsLegal, IsLegalContent}
use Rattle.hll_sketch.proofs.Gadgets.{gadget_of_content}
use Rattle.hll_sketch.proofs.LegalSketches.{merge_is_legal}
use Rattle.hll_sketch.proofs.Merges.{merged_whole}
use Rattle.hll_sketch.proofs.SetFields.{fields_keep, same_fields_of_sketches}

-- ---- one content, with its estimate state cleared

same_pairs : (c : Content) → pairs_in (cleared_content c) ≡ pairs_in c
same_pairs (coupons S size) = refl
same_pairs (registers R s) = refl

-- what coupons become has the cleared estimate state
cleared_for : (k : ℕ) (S : Pairs) (o : Option ℕ) → cleared_content (content_for k S o) ≡ content_for k S o
cleared_for k S (Some size) = refl
cleared_for k S None = refl

plain_for : (k : ℕ) (S : Pairs) (o : Option ℕ) → HasPlainState (content_for k S o)
plain_for k S (Some size) = tt
plain_for k S None = inl refl

-- ---- pairs added

cleared_with : (k : ℕ) (c : Content) (T : Pairs) → cleared_content (content_with k c T) ≡ content_with k (cleared_content c) T
cleared_with k (coupons S size) T = cleared_for k (union S T) (stage k size (len (union S T)))
cleared_with k (registers R s) T = let Q : List ℕ = join R (fold_to T k) in ap (registers Q) (sym (state_after-cleared_state R Q))

plain_with : (k : ℕ) (c : Content) (T : Pairs) → HasPlainState c → HasPlainState (content_with k c T)
plain_with k (coupons S size) T plain = plain_for k (union S T) (stage k size (len (union S T)))
plain_with k (registers R s) T plain = of (join R (fold_to T k)) (pointwise nat_eq R (join R (fold_to T k))) refl
  where
    of : (Q : List ℕ) (b : Bool) → pointwise nat_eq R Q ≡ b → HasPlainState (registers Q (cond b s cleared_state))
    of Q true e = subst (λ P. HasPlainState (registers P s)) ((same_decides R Q).0 e) plain
    of Q false e = inl refl

-- ---- a sketch is merged

-- a gadget whose estimate state is plain
pub record IsPlainGadget (m : ℕ) (g : Sketch) : Type 0 where
  pub gadget : IsGadget m g
  pub legal : IsLegal g
  pub state : HasPlainState g.content

module _ (m : ℕ) (g : Sketch) (is : IsPlainGadget m g) where
  same_empty : is_empty (cleared g) ≡ is_empty g
  same_empty = ap (λ P. nat_eq (len P) 0) (same_pairs g.content)

  coupons_cleared : (k : ℕ) (w : HllType) (S : Pairs) (size : ℕ) → let x : Sketch = record { lg_k = k; width = w; content = coupons S size } in
      cleared (merge_coupons g x) ≡ merge_coupons (cleared g) x
  coupons_cleared k w S size =
      elim (is_empty g && nat_eq g.lg_k k) as (λ b. cleared (cond b (record g { content = coupons S size }) (add g S)) ≡ cond b (record (cleared g) { content = coupons S size }) (add (cleared g) S)) [
        | true ↦ refl
        | false ↦ ap (λ c. let z : Sketch = record g { content = c } in z) (cleared_with g.lg_k g.content S)
      ]
      ∙ ap (λ b. cond (b && nat_eq g.lg_k k) (record (cleared g) { content = coupons S size }) (add (cleared g) S)) (sym same_empty)

  coupons_plain : (k : ℕ) (w : HllType) (S : Pairs) (size : ℕ) → let x : Sketch = record { lg_k = k; width = w; content = coupons S size } in
      HasPlainState (merge_coupons g x).content
  coupons_plain k w S size =
      elim (is_empty g && nat_eq g.lg_k k) as (λ b. let z : Sketch = cond b (record g { content = coupons S size }) (add g S) in HasPlainState z.content) [
        | true ↦ tt
        | false ↦ plain_with g.lg_k g.content S is.state
      ]

  registers_cleared : (k : ℕ) (R : List ℕ) (s : EstimateState) → cleared (merge_registers m g k R s) ≡ merge_registers m (cleared g) k R cleared_state
  registers_cleared k R s =
      let e : ℕ = min g.lg_k k in
      let made : Pairs → EstimateState → Sketch = λ P t. record { lg_k = e; width = g.width; content = registers (fold_to (union P (pairs R)) e) t } in
      let state : cleared_state ≡ state_after_merge m (cleared g) k cleared_state =
      elim (is_empty (cleared g) && leb k m) as (λ b. cleared_state ≡ cond b cleared_state cleared_state) [ true ↦ refl | false ↦ refl ] in
      λ i. made (sym (same_pairs g.content) i) (state i)

  registers_plain : (k : ℕ) (R : List ℕ) (s : EstimateState) → k ≤ 21 → length R ≡ 2 ^ k → HasPlainState (registers R s) → HasPlainState (merge_registers m g k R s).content
  registers_plain k R s small size plain = of (is_empty g && leb k m) refl
    where
      of : (b : Bool) → (is_empty g && leb k m) ≡ b → HasPlainState (merge_registers m g k R s).content
      of true e =
          let both = and_parts (is_empty g) (leb k m) e in
          let out : in_registers g.content ≡ false = outside (in_registers g.content) refl both.0 in
          subst (λ (z : Sketch). HasPlainState z.content) (merged_whole m g k R s both.0 (leb-true k m both.1) (is.gadget.coupons out) small size) plain
        where
          outside : (b : Bool) → in_registers g.content ≡ b → is_empty g ≡ true → in_registers g.content ≡ false
          outside true inside none = absurd (true≢false (sym none ∙ is.gadget.registers inside))
          outside false inside none = inside
      of false e = inl (ap (λ b. cond b s cleared_state) e)

  content_cleared : (k : ℕ) (w : HllType) (c : Content) → let x : Sketch = record { lg_k = k; width = w; content = c } in
      cleared (merge_content m g x c) ≡ merge_content m (cleared g) (cleared x) (cleared_content c)
  content_cleared k w (coupons S size) = coupons_cleared k w S size
  content_cleared k w (registers R s) = registers_cleared k R s

  content_plain : (k : ℕ) (w : HllType) (c : Content) → k ≤ 21 → IsLegalContent k c → HasPlainState c → let x : Sketch = record { lg_k = k; width = w; content = c } in
      HasPlainState (merge_content m g x c).content
  content_plain k w (coupons S size) small legal plain = coupons_plain k w S size
  content_plain k w (registers R s) small legal plain = registers_plain k R s small legal.0.size plain

  merge_cleared : (x : Sketch) → cleared (merge m g x) ≡ merge m (cleared g) (cleared x)
  merge_cleared x =
      elim (is_empty x) as (λ b. cleared (cond b g (merge_content m g x x.content)) ≡ cond b (cleared g) (merge_content m (cleared g) (cleared x) (cleared_content x.content))) [
        | true ↦ refl
        | false ↦ content_cleared x.lg_k x.width x.content
      ]
      ∙ ap (λ P. cond (nat_eq (len P) 0) (cleared g) (merge_content m (cleared g) (cleared x) (cleared_content x.content))) (sym (same_pairs x.content))

  merge_plain : (x : Sketch) → IsPlain x → IsPlainGadget m (merge m g x)
  merge_plain x plain = of (is_empty x) refl
    where
      of : (b : Bool) → is_empty x ≡ b → IsPlainGadget m (merge m g x)
      of true e = subst (IsPlainGadget m) (sym (cond-true (is_empty x) g (merge_content m g x x.content) e)) is
      of false e = record {
        gadget = subst (IsGadget m) (sym (cond-false (is_empty x) g (merge_content m g x x.content) e)) (gadget_of_content m g x x.content refl e is.gadget is.legal plain.legal);
        legal = merge_is_legal m g x is.legal plain.legal;
        state = subst (λ (z : Sketch). HasPlainState z.content) (sym (cond-false (is_empty x) g (merge_content m g x x.content) e))
            (content_plain x.lg_k x.width x.content plain.legal.lg_k.high plain.legal.content plain.state);
      }

-- ---- all sketches

pub all_plain : (m : ℕ) (g : Sketch) (xs : List Sketch) → IsPlainGadget m g → AllByRecursion IsPlain xs → IsPlainGadget m (merge_all m g xs) × (cleared (merge_all m g xs) ≡ merge_all m (cleared g) (map cleared xs))
all_plain m g [] is plain = (is, refl)
all_plain m g (x ∷ xs) is plain =
    let next = all_plain m (merge m g x) xs (merge_plain m g is x plain.0) plain.1 in
    (next.0, next.1 ∙ ap (λ h. merge_all m h (map cleared xs)) (merge_cleared m g is x))

-- ---- fields

-- if registers have the cleared state, one sketch has their fields set
itself : (c : Content) → HasClearedState c → HaveSameRegisters c c
itself (coupons S size) is = absurd is
itself (registers R s) is = refl

pub one_filled : (x y z : Sketch) → FillsFields x y → FillsFields x z → y ≡ z
one_filled x y z (filled c v) (filled d w) = same_fields_of_sketches x x y z refl refl (itself x.content c) v w
one_filled x y z (filled c v) (stays n e) = absurd (n c)
one_filled x y z (stays n e) (filled c v) = absurd (n c)
one_filled x y z (stays n e) (stays m f) = e ∙ sym f

-- with a plain state, setting the fields gives what it gives with the cleared state
pub fills_cleared : (k : ℕ) (w : HllType) (c : Content) (y : Sketch) → HasPlainState c → let x : Sketch = record { lg_k = k; width = w; content = c } in FillsFields x y → FillsFields (cleared x) y
fills_cleared k w (coupons S size) y plain fills = fills
fills_cleared k w (registers R s) y plain (filled c sets) = filled refl (record { lg_k = sets.lg_k; width = sets.width; content = sets.content })
fills_cleared k w (registers R s) y (inl c) (stays n e) = absurd (n c)
fills_cleared k w (registers R s) y (inr fields) (stays n e) =
    filled refl (record { lg_k = ap (λ (z : Sketch). z.lg_k) e; width = ap (λ (z : Sketch). z.width) e; content = (s, fields, ap (λ (z : Sketch). z.content) e) })

pub empty_plain : (m : ℕ) → IsLgK m → IsPlainGadget m (empty_union m)
empty_plain m is = record {
  gadget = record { width = refl; lg_k = omega arith; coupons = λ h. refl; registers = λ h. absurd (true≢false (sym h)) };
  legal = record { lg_k = is; content = (λ c h. absurd (true≢false (sym h ∙ contains-empty nat_cmp c)), inl (refl, omega (arith, len-empty nat_cmp))) };
  state = tt;
}

pub union_of_plain : UnionOfPlain
union_of_plain m xs y z is plain here there =
    let g : Sketch = merge_all m (empty_union m) xs in
    let both = all_plain m (empty_union m) xs (empty_plain m is) plain in
    one_filled (cleared g) y z (fills_cleared g.lg_k g.width g.content y both.0.state here) (subst (λ (h : Sketch). FillsFields h z) (sym both.1) there)

-- a content whose fields are set
set_plain : (x y : Content) → HasPlainState x → SetsFieldsIn x y → HasPlainState y
set_plain (coupons S size) y plain sets = subst HasPlainState (sym sets) plain
set_plain (registers R s) y plain sets = subst HasPlainState (sym sets.2) (inr sets.1)

pub filled_is_plain : FilledIsPlain
filled_is_plain x y (filled c sets) plain = record { legal = fields_keep.legal x y sets plain.legal; state = set_plain x.content y.content plain.state sets.content }
filled_is_plain x y (stays n e) plain = subst IsPlain (sym e) plain
