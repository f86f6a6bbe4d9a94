-- SPDX-License-Identifier: Apache-2.0
-- The outcome of a plan has the effective lg_k, and the meaning of its inputs.
use Rattle.std.proofs.Common.{◌≡◌, ℕ, ◌^◌, ◌<◌, ◌≤◌, true, false, cond, not, ◌&&◌, nat_eq, eqb, [], ◌∷◌, length, get_or, refl, sym, ap, subst, ◌∙◌, arith, inl, inr}
use Rattle.std.specs.Prelude.{min}
use Rattle.std.specs.Ordering.{nat_cmp}
use Rattle.std.specs.FinSet.{items, empty, union, len, from_list, contains, contains-empty, len-empty}
use Rattle.std.proofs.lemmas.Bool.{cases_Bool, cond-true, cond-false, eq-eqb, and_parts, and_from, and_left, true≢false}
use Rattle.hll_coupons.specs.Pair.{Pairs}
use Rattle.hll_coupons.specs.Fold.{fold_to, pairs, greatest, value_at}
use Rattle.hll_coupons.proofs.Greatest.{bounded}
use Rattle.hll_coupons.proofs.Folds.{length-fold_to, get_or-fold_to}
use Rattle.hll_coupons.proofs.Registers.{StandsFor, pairs_only}
use Rattle.hll_base.specs.declared.hll_type.HllType.{HllType}
use Rattle.hll_sketch.specs.Value.{Content, coupons, registers, Sketch, pairs_in, pairs_of, is_empty, in_registers, has_nonzero_registers, ArePairs}
use Rattle.hll_sketch.specs.Adding.{content_with, add}
use Rattle.hll_sketch.specs.Folding.{folded, folded_content}
use Rattle.hll_sketch.specs.Merging.{merge, merge_content, merge_all, empty_union}
use Rattle.hll_merge.specs.Plan.{Plan, Plans, new, image, coupon, union_plan, fold, no_plans, more_plans, inputs, inputs_of_each, outcome, outcomes, effective_lg_k, least_of_each, Leaves, LeavesOfEach, IsLeafOf, IsLeafOfEach, IsLegalPlan}
use Rattle.hll_merge.specs.Meaning.{PlansHaveMeaning, SameInputsAgree}
use Rattle.hll_sketch.specs.Meaning.{Means}
use Rattle.hll_sketch.proofs.Adding.{merge_of_empty, merge_of_some}
use Rattle.hll_sketch.proofs.Gadgets.{ArePairs-one}
use Rattle.hll_sketch.proofs.Meanings.{MeansPairs, MeansPairs-add, MeansPairs-merge, MeansPairs-width, MeansPairs-empty, MeansPairs-legal, MeansPairs-folded, nothing, folds_as}
use Rattle.hll_merge.proofs.EffectiveLgK.{lg_k-outcome}
use Rattle.hll_coupons.proofs.Unions.{union-empty, union_assoc, union_none, no_members, union_left, union_right}

-- ---- plans

mutual
  pub good : (Q : Sketch → Type 0) (t : Plan) → Leaves Q t → MeansPairs (outcome t) (inputs t)
  good Q (new k w) h = MeansPairs-empty k w h.high
  good Q (image x) h = MeansPairs-legal x x.lg_k x.width x.content h.0
  good Q (coupon t c) h = MeansPairs-add (outcome t) (inputs t) (from_list (c ∷ [])) (good Q t h.0) (ArePairs-one c h.1)
  good Q (fold t e) h =
      let g : MeansPairs (outcome t) (inputs t) = good Q t h.0 in
      MeansPairs-folded (outcome t) e (inputs t) (omega (arith, h.1.high, lg_k-outcome t)) g
  good Q (union_plan m w ts) h = MeansPairs-width (merge_all m (empty_union m) (outcomes ts)) w (inputs_of_each ts) (rw (← union-empty (inputs_of_each ts)) (good_each Q ts m (empty_union m) empty (MeansPairs-empty m _ h.0.high) h.1))

  pub good_each : (Q : Sketch → Type 0) (ts : Plans) (m : ℕ) (g : Sketch) (P : Pairs) → MeansPairs g P → LeavesOfEach Q ts → MeansPairs (merge_all m g (outcomes ts)) (union P (inputs_of_each ts))
  good_each Q no_plans m g P h leaves = rw (union_none P) h
  good_each Q (more_plans t ts) m g P h leaves = rw (← union_assoc P (inputs t) (inputs_of_each ts)) (good_each Q ts m (merge m g (outcome t)) (union P (inputs t)) (MeansPairs-merge m g (outcome t) P (inputs t) h (good Q t leaves.0)) leaves.1)

-- ---- register images bound the lg_k

-- a sketch in registers that are not all 0
record HasSome (x : Sketch) : Type 0 where
  inside : in_registers x.content ≡ true
  some : is_empty x ≡ false

has_some : (x : Sketch) → has_nonzero_registers x ≡ true → HasSome x
has_some x h = let parts = and_parts (in_registers x.content) (not (is_empty x)) h in
    record { inside = parts.0; some = elim (cases_Bool (is_empty x)) [ inl t ↦ absurd (true≢false (sym parts.1 ∙ ap not t)) | inr f ↦ f ] }

some_has : (x : Sketch) → HasSome x → has_nonzero_registers x ≡ true
some_has x h = and_from (in_registers x.content) (not (is_empty x)) h.inside (ap not h.some)

-- a sketch of no pairs is empty
none_empty : (k : ℕ) (c : Content) (P : Pairs) → Means k c P → P ≡ empty → eqb (len (pairs_in c)) 0 ≡ true
none_empty k (coupons S p) P m e = eq-eqb (len S) 0 (ap len (m ∙ e) ∙ len-empty nat_cmp)
none_empty k (registers R s) P m e = eq-eqb (len (pairs R)) 0 (ap len (no_members (pairs R) (λ q h.
    let found : (i : ℕ) × StandsFor R 0 q i = pairs_only R q h in
    let i : ℕ = found.0 in
    let within : i < 2 ^ k = omega (arith, found.1.within, ap length m, length-fold_to P k) in
    let at : get_or R i 0 ≡ greatest (value_at k i) (items P) = ap (λ R. get_or R i 0) m ∙ get_or-fold_to P k i within in
    let zero' : greatest (value_at k i) (items P) ≤ 0 = bounded (value_at k i) 0 P (λ c t. absurd (true≢false (sym t ∙ ap (λ S. contains S c) e ∙ contains-empty nat_cmp c))) in
    omega (arith, found.1.positive))) ∙ len-empty nat_cmp)

-- a sketch that has pairs still has pairs when more are added
still_some : (x y : Sketch) (P Q : Pairs) → MeansPairs x P → MeansPairs y Q → (Q ≡ empty → P ≡ empty) → is_empty x ≡ false → is_empty y ≡ false
still_some x y P Q g h up some = elim (cases_Bool (is_empty y)) [
  | inl t ↦ absurd (true≢false (sym (none_empty x.lg_k x.content P g.meaning (up (nothing y.lg_k y.content Q h.small h.are h.meaning t))) ∙ some))
  | inr f ↦ f
]

inside-content_with : (k : ℕ) (c : Content) (T : Pairs) → in_registers c ≡ true → in_registers (content_with k c T) ≡ true
inside-content_with k (coupons S p) T h = absurd (true≢false (sym h))
inside-content_with k (registers R s) T h = refl

HasSome-add : (x : Sketch) (P T : Pairs) → MeansPairs x P → ArePairs T → HasSome x → HasSome (add x T)
HasSome-add x P T g t h = record {
  inside = inside-content_with x.lg_k x.content T h.inside;
  some = still_some x (add x T) P (union P T) g (MeansPairs-add x P T g t) (union_left P T) h.some;
}

inside-folded_content : (k e : ℕ) (c : Content) → in_registers c ≡ true → in_registers (folded_content k e c) ≡ true
inside-folded_content k e (coupons S p) h = absurd (true≢false (sym h))
inside-folded_content k e (registers R s) h = refl

HasSome-folded : (x : Sketch) (e : ℕ) (P : Pairs) → MeansPairs x P → MeansPairs (folded x e) P → HasSome x → HasSome (folded x e)
HasSome-folded x e P g g' h = record {
  inside = inside-folded_content x.lg_k e x.content h.inside;
  some = still_some x (folded x e) P P g g' (λ z. z) h.some;
}

-- a gadget with registers still has registers
HasSome-merge : (m : ℕ) (g x : Sketch) (P Q : Pairs) → MeansPairs g P → MeansPairs x Q → HasSome g → HasSome (merge m g x)
HasSome-merge m g x P Q good other h = record {
  inside = elim (cases_Bool (is_empty x)) [
    | inl e ↦ rw (merge_of_empty m g x e) h.inside
    | inr e ↦ rw (merge_of_some m g x e) (of x.lg_k x.width x.content)
  ];
  some = still_some g (merge m g x) P (union P Q) good (MeansPairs-merge m g x P Q good other) (union_left P Q) h.some;
}
  where
    of : (l : ℕ) (w : HllType) (c : Content) → let x : Sketch = record { lg_k = l; width = w; content = c } in in_registers (merge_content m g x c).content ≡ true
    of l w (registers R s) = refl
    of l w (coupons S p) =
        let x : Sketch = record { lg_k = l; width = w; content = coupons S p } in
        rw (cond-false (is_empty g && nat_eq g.lg_k l) (record g { content = x.content }) (add g S) (and_left (is_empty g) (nat_eq g.lg_k l) h.some)) (inside-content_with g.lg_k g.content S h.inside)

-- a sketch with registers gives the gadget registers
HasSome-from : (m : ℕ) (g x : Sketch) (P Q : Pairs) → MeansPairs g P → MeansPairs x Q → HasSome x → HasSome (merge m g x)
HasSome-from m g x P Q good other h = record {
  inside = rw (merge_of_some m g x h.some) (of x.lg_k x.width x.content h.inside);
  some = still_some x (merge m g x) Q (union P Q) other (MeansPairs-merge m g x P Q good other) (union_right P Q) h.some;
}
  where
    of : (l : ℕ) (w : HllType) (c : Content) → in_registers c ≡ true → let x : Sketch = record { lg_k = l; width = w; content = c } in in_registers (merge_content m g x c).content ≡ true
    of l w (registers R s) i = refl
    of l w (coupons S p) i = absurd (true≢false (sym i))

least_of_each_le : (ts : Plans) (k : ℕ) → least_of_each k ts ≤ k
least_of_each_le no_plans k = omega arith
least_of_each_le (more_plans t ts) k =
    let l : ℕ = cond (has_nonzero_registers (outcome t)) (min k (effective_lg_k t)) k in
    let le : l ≤ k = elim (has_nonzero_registers (outcome t)) as (λ b. cond b (min k (effective_lg_k t)) k ≤ k) [ true ↦ omega arith | false ↦ omega arith ] in
    omega (arith, least_of_each_le ts l)

-- the union has registers after its children, if the gadget or one of them has registers
record Lowest (x : Sketch) (t : Plan) : Type 0 where
  pub some : HasSome (outcome t)
  pub low : effective_lg_k t ≤ x.lg_k

mutual
  lowest : (x : Sketch) (t : Plan) → IsLegalPlan t → has_nonzero_registers x ≡ true → IsLeafOf x t → Lowest x t
  lowest x (new k w) h r i = absurd i
  lowest x (image y) h r i = record { some = has_some y (ap has_nonzero_registers (sym i) ∙ r); low = omega (arith, ap (λ (s : Sketch). s.lg_k) i) }
  lowest x (coupon t c) h r i =
      let before : Lowest x t = lowest x t h.0 r i in
      record { some = HasSome-add (outcome t) (inputs t) (from_list (c ∷ [])) (good _ t h.0) (ArePairs-one c h.1) before.some; low = before.low }
  lowest x (fold t e) h r i =
      let before : Lowest x t = lowest x t h.0 r i in
      record { some = HasSome-folded (outcome t) e (inputs t) (good _ t h.0) (good _ (fold t e) h) before.some; low = omega (arith, before.low, h.1.high) }
  lowest x (union_plan m w ts) h r i =
      let all = lowest_of_each x ts m (empty_union m) empty m (MeansPairs-empty m _ h.0.high) h.1 r i in
      record { some = record { inside = all.0.inside; some = all.0.some }; low = all.1 }

  lowest_of_each : (x : Sketch) (ts : Plans) (m : ℕ) (g : Sketch) (P : Pairs) (k : ℕ) → MeansPairs g P → LeavesOfEach (λ _. Unit {0}) ts → has_nonzero_registers x ≡ true → IsLeafOfEach x ts →
      HasSome (merge_all m g (outcomes ts)) × (least_of_each k ts ≤ x.lg_k)
  lowest_of_each x no_plans m g P k good' h r i = absurd i
  lowest_of_each x (more_plans t ts) m g P k good' h r i =
      let one : MeansPairs (outcome t) (inputs t) = good _ t h.0 in
      let next : MeansPairs (merge m g (outcome t)) (union P (inputs t)) = MeansPairs-merge m g (outcome t) P (inputs t) good' one in
      elim i [
        | inl here ↦
            let found : Lowest x t = lowest x t h.0 r here in
            let has : has_nonzero_registers (outcome t) ≡ true = some_has (outcome t) found.some in (
              kept ts m (merge m g (outcome t)) (union P (inputs t)) next h.1 (HasSome-from m g (outcome t) P (inputs t) good' one found.some),
              let at : cond (has_nonzero_registers (outcome t)) (min k (effective_lg_k t)) k ≡ min k (effective_lg_k t) = cond-true (has_nonzero_registers (outcome t)) (min k (effective_lg_k t)) k has in
                  omega (arith, least_of_each_le ts (cond (has_nonzero_registers (outcome t)) (min k (effective_lg_k t)) k), found.low),
            )
        | inr later ↦ lowest_of_each x ts m (merge m g (outcome t)) (union P (inputs t)) (cond (has_nonzero_registers (outcome t)) (min k (effective_lg_k t)) k) next h.1 r later
      ]

  kept : (ts : Plans) (m : ℕ) (g : Sketch) (P : Pairs) → MeansPairs g P → LeavesOfEach (λ _. Unit {0}) ts → HasSome g → HasSome (merge_all m g (outcomes ts))
  kept no_plans m g P good' h s = s
  kept (more_plans t ts) m g P good' h s =
      let one : MeansPairs (outcome t) (inputs t) = good _ t h.0 in
      kept ts m (merge m g (outcome t)) (union P (inputs t)) (MeansPairs-merge m g (outcome t) P (inputs t) good' one) h.1 (HasSome-merge m g (outcome t) P (inputs t) good' one s)

-- ---- the laws

pub plans_have_meaning : PlansHaveMeaning
plans_have_meaning t h =
    let g : MeansPairs (outcome t) (inputs t) = good _ t h in
    let e : (outcome t).lg_k ≡ effective_lg_k t = lg_k-outcome t in
    record {
      lg_k = e;
      lowest = λ x i r. let found : Lowest x t = lowest x t h r i in found.low;
      meaning = subst (λ k. Means k (outcome t).content (inputs t)) e g.meaning;
      folded = λ n le. folds_as (outcome t).lg_k n (outcome t).content (inputs t) g.small (omega arith) g.meaning;
    }

pub same_inputs_agree : SameInputsAgree
same_inputs_agree t u h k same =
    let e : ℕ = min (effective_lg_k t) (effective_lg_k u) in
    let one : fold_to (pairs_of (outcome t)) e ≡ fold_to (inputs t) e = (plans_have_meaning t h).folded e (omega arith) in
    let two : fold_to (pairs_of (outcome u)) e ≡ fold_to (inputs u) e = (plans_have_meaning u k).folded e (omega arith) in
    one ∙ ap (λ P. fold_to P e) same ∙ sym two
