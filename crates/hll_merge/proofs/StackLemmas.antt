-- SPDX-License-Identifier: Apache-2.0
-- Lemmas on carrying out steps: the sketches of a stack are outcomes of the plans.
use Rattle.std.proofs.Common.{◌≡◌, ℕ, zero, suc, Bool, true, false, ◌&&◌, nat_eq, if◌then◌else◌, ◌+◌, ◌-◌, ◌<◌, ◌≤◌, inl, inr, List, [], ◌∷◌, ◌++◌, length, take, drop, get_or, Some, Ok, refl, sym, ◌∙◌, ap, subst, arith, map, option_to_list, Option, None}
use Rattle.std.proofs.Math.ListN.{set}
use Rattle.std.proofs.Math.Nat.{eq-or-lt_of_le}
use Rattle.std.proofs.Math.Seq.{take-suc, get_or-append_seam}
use Rattle.std.proofs.lemmas.List.{set_split, take_all, take-append-drop, take-append-le, take-set, take-set-le, take_more_set, length-append, length-drop, length-set}
use Rattle.std.proofs.lemmas.Bool.{cases_Bool, cond-true, cond-false}
use Rattle.std.proofs.lemmas.List.Edits.{swap_is}
use Rattle.std.specs.List.{swap}
use Rattle.std.specs.Prelude.{IsSome, IfSome, IfNone}
use Rattle.hll_base.specs.declared.error.Reason.{Reason}
use Rattle.hll_base.specs.declared.error.Reason.TheVariants as reasons
use Rattle.hll_base.specs.declared.error.ErrorKind.TheVariants.{InvalidData}
use Rattle.hll_base.specs.Reason.{kind_of}
use Rattle.hll_coupons.specs.Pair.{pair, set_of}
use Rattle.hll_base.specs.declared.hll_type.HllType.{HllType}
use Rattle.hll_base.specs.declared.hll_type.HllType.TheVariants.{Hll8}
use Rattle.hll_sketch.specs.Adding.{add}
use Rattle.hll_sketch.specs.Checks.{first_fault}
use Rattle.hll_sketch.specs.Folding.{folded}
use Rattle.hll_sketch.specs.Image.{IsReadAs}
use Rattle.hll_sketch.specs.Layout.{SketchLayout, sketch_of}
use Rattle.hll_sketch.specs.Merging.{merge, merge_all, merge_content, empty_union}
use Rattle.hll_sketch.specs.Value.{Sketch, Content, coupons, registers, is_empty, pairs_of}
use Rattle.hll_sketch.proofs.FaultKinds.{faults_are_of_data}
use Rattle.hll_sketch.proofs.FirstFaults.{first_fault_stands}
use Rattle.hll_text.specs.declared.fault.Fault.{Fault}
use Rattle.hll_text.specs.declared.fault.Fault.TheVariants as faults
use Rattle.hll_text.specs.Step.{fault_of}
use Rattle.hll_text.specs.Text as text
use Rattle.hll_text.specs.Text.{PlanStep, Reading}
use Rattle.hll_merge.specs.Plan as plan
use Rattle.hll_merge.specs.Plan.{Plan, outcome, outcomes, plans_of, effective_lg_k}
use Rattle.hll_merge.specs.Accepting.{Gives, IsFaultOfLine, Runs, LastPlanIsBelow, IsFaultOfStep, skipped, taken, unread, refused}
use Rattle.hll_merge.specs.Stack.{Represents, AllRepresent, ReplacesLast, MergesTail, LastIsBelow, StackCarries, StackRefuses, StackGives, StackFaults}
use Rattle.hll_merge.proofs.EffectiveLgK.{lg_k-outcome}

-- ---- a stack and its plans

pub AllRepresent-push : (xs : List SketchLayout) (ts : List Plan) (x : SketchLayout) (t : Plan) → AllRepresent xs ts → Represents x t → AllRepresent (xs ++ x ∷ []) (ts ++ t ∷ [])
AllRepresent-push [] [] x t h s = (s, tt)
AllRepresent-push [] (u ∷ ts) x t h s = absurd h
AllRepresent-push (y ∷ xs) [] x t h s = absurd h
AllRepresent-push (y ∷ xs) (u ∷ ts) x t h s = (h.0, AllRepresent-push xs ts x t h.1 s)

-- the plan of the last sketch of a stack
record Last (front : List SketchLayout) (last : SketchLayout) (ts : List Plan) : Type 0 where
  below : List Plan
  top : Plan
  is : ts ≡ below ++ top ∷ []
  all : AllRepresent front below
  one : Represents last top

AllRepresent-last : (front : List SketchLayout) (last : SketchLayout) (ts : List Plan) → AllRepresent (front ++ last ∷ []) ts → Last front last ts
AllRepresent-last [] last [] h = absurd h
AllRepresent-last [] last (t ∷ []) h = record { below = []; top = t; is = refl; all = tt; one = h.0 }
AllRepresent-last [] last (t ∷ u ∷ ts) h = absurd h.1
AllRepresent-last (x ∷ front) last [] h = absurd h
AllRepresent-last (x ∷ front) last (t ∷ ts) h =
    let l : Last front last ts = AllRepresent-last front last ts h.1 in
    record { below = t ∷ l.below; top = l.top; is = ap (λ us. t ∷ us) l.is; all = (h.0, l.all); one = l.one }

pub AllRepresent-nil : (xs : List SketchLayout) (ts : List Plan) → xs ≡ [] → AllRepresent xs ts → ts ≡ []
AllRepresent-nil [] [] e h = refl
AllRepresent-nil [] (t ∷ ts) e h = absurd h
AllRepresent-nil (x ∷ xs) ts e h = absurd (cc)

pub length-AllRepresent : (xs : List SketchLayout) (ts : List Plan) → AllRepresent xs ts → length xs ≡ length ts
length-AllRepresent [] [] h = refl
length-AllRepresent [] (t ∷ ts) h = absurd h
length-AllRepresent (x ∷ xs) [] h = absurd h
length-AllRepresent (x ∷ xs) (t ∷ ts) h = ap suc (length-AllRepresent xs ts h.1)

AllRepresent-drop : (k : ℕ) (xs : List SketchLayout) (ts : List Plan) → AllRepresent xs ts → AllRepresent (drop k xs) (drop k ts)
AllRepresent-drop zero xs ts h = h
AllRepresent-drop (suc k) [] [] h = tt
AllRepresent-drop (suc k) [] (t ∷ ts) h = absurd h
AllRepresent-drop (suc k) (x ∷ xs) [] h = absurd h
AllRepresent-drop (suc k) (x ∷ xs) (t ∷ ts) h = AllRepresent-drop k xs ts h.1

AllRepresent-take : (k : ℕ) (xs : List SketchLayout) (ts : List Plan) → AllRepresent xs ts → AllRepresent (take k xs) (take k ts)
AllRepresent-take zero xs ts h = tt
AllRepresent-take (suc k) [] [] h = tt
AllRepresent-take (suc k) [] (t ∷ ts) h = absurd h
AllRepresent-take (suc k) (x ∷ xs) [] h = absurd h
AllRepresent-take (suc k) (x ∷ xs) (t ∷ ts) h = (h.0, AllRepresent-take k xs ts h.1)

-- the values of a stack are its plans' outcomes
AllRepresent-values : (xs : List SketchLayout) (ts : List Plan) → AllRepresent xs ts → map sketch_of xs ≡ outcomes (plans_of ts)
AllRepresent-values [] [] h = refl
AllRepresent-values [] (t ∷ ts) h = absurd h
AllRepresent-values (x ∷ xs) [] h = absurd h
AllRepresent-values (x ∷ xs) (t ∷ ts) h = λ i. h.0 i ∷ AllRepresent-values xs ts h.1 i

-- a stack of one
pub AllRepresent-one : (x : SketchLayout) (xs : List SketchLayout) (ts : List Plan) → xs ≡ x ∷ [] → AllRepresent xs ts → (t : Plan) × (ts ≡ t ∷ []) × Represents x t
AllRepresent-one x xs ts e h = of ts (subst (λ zs. AllRepresent zs ts) e h)
  where
    of : (ts : List Plan) → AllRepresent (x ∷ []) ts → (t : Plan) × (ts ≡ t ∷ []) × Represents x t
    of [] h = absurd h
    of (t ∷ []) h = (t, refl, h.0)
    of (t ∷ u ∷ ts) h = absurd h.1

-- ---- the last of a list

split_last : (xs : List SketchLayout) (n : ℕ) (d : SketchLayout) → length xs ≡ suc n → xs ≡ take n xs ++ get_or xs n d ∷ []
split_last xs n d e = sym (take_all (suc n) xs (omega (arith, e))) ∙ take-suc xs n d (omega arith)

set_last : (xs : List SketchLayout) (n : ℕ) (y : SketchLayout) → length xs ≡ suc n → set xs n y ≡ take n xs ++ y ∷ []
set_last xs n y e = set_split xs n y (omega arith) ∙ ap (λ ys. take n xs ++ y ∷ ys) (none xs (suc n) e)
  where
    none : (xs : List SketchLayout) (n : ℕ) → length xs ≡ n → drop n xs ≡ []
    none [] zero e = refl
    none [] (suc n) e = refl
    none (x ∷ xs) zero e = absurd (omega arith)
    none (x ∷ xs) (suc n) e = none xs n (omega arith)

pub replaces_last : (IsFor : Sketch → Sketch → Type 0) (xs : List SketchLayout) (n : ℕ) (x y : SketchLayout) → length xs ≡ suc n → x ≡ get_or xs n x → IsFor (sketch_of x) (sketch_of y)
    → ReplacesLast xs IsFor (set xs n y)
replaces_last IsFor xs n x y e at h = record {
  front = take n xs;
  last = x;
  made = y;
  is = split_last xs n x e ∙ ap (λ z. take n xs ++ z ∷ []) (sym at);
  value = h;
  gives = set_last xs n y e;
}

-- the last sketch of a stack of one is the only one
pub only : (xs ys : List SketchLayout) (o : Option SketchLayout) → xs ≡ ys ++ option_to_list o → length xs ≡ 1 → IfSome o (λ x. xs ≡ x ∷ [])
only xs ys None e one = tt
only xs [] (Some x) e one = e
only xs (y ∷ ys) (Some x) e one = absurd (omega (arith, one, ap length e, length-append (y ∷ ys) (x ∷ [])))

pub some_is_not_none : (o : Option SketchLayout) (Q : Type 0) → IsSome o → IfNone o Q
some_is_not_none None Q some = absurd (cc)
some_is_not_none (Some x) Q some = tt

-- a list in which one more element replaces those from an index on
pub replaced_from : (xs : List SketchLayout) (at : ℕ) (y : SketchLayout) → at ≤ length xs → take (at + 1) (swap (xs ++ y ∷ []) at (length xs)) ≡ take at xs ++ y ∷ []
replaced_from xs at y h =
    let n : ℕ = length xs in
    let ys = xs ++ y ∷ [] in
    let more : length ys ≡ n + 1 = length-append xs (y ∷ []) in
    let last : get_or ys n y ≡ y = get_or-append_seam xs y [] y in
    let front : take at ys ≡ take at xs = take-append-le at xs (y ∷ []) h in
    ap (take (at + 1)) (sym (swap_is ys at n y (omega arith) (omega arith)))
    ∙ elim (eq-or-lt_of_le h) [
      | inl same ↦
          let there : take (at + 1) (set (set ys at (get_or ys n y)) at (get_or ys at y)) ≡ take at ys ++ get_or ys at y ∷ [] =
          take_more_set (set ys at (get_or ys n y)) at (get_or ys at y) (omega (arith, length-set ys at (get_or ys n y), same))
          ∙ ap (λ zs. zs ++ get_or ys at y ∷ []) (take-set ys at (get_or ys n y)) in
          ap (λ k. take (at + 1) (set (set ys at (get_or ys n y)) k (get_or ys at y))) (sym same)
          ∙ there ∙ (λ i. front i ++ (ap (λ k. get_or ys k y) same ∙ last) i ∷ [])
      | inr low ↦
          take-set-le (at + 1) (set ys at (get_or ys n y)) n (get_or ys at y) (omega (arith, low))
          ∙ take_more_set ys at (get_or ys n y) (omega arith) ∙ (λ i. front i ++ last i ∷ [])
    ]

-- ---- steps

pub carries-push : (xs ys : List SketchLayout) (ts : List Plan) (x : SketchLayout) (t : Plan) → AllRepresent xs ts → Represents x t → ys ≡ xs ++ x ∷ [] → AllRepresent ys (ts ++ t ∷ [])
carries-push xs ys ts x t h s is = subst (λ zs. AllRepresent zs (ts ++ t ∷ [])) (sym is) (AllRepresent-push xs ts x t h s)

pub carries-coupon : (xs ys : List SketchLayout) (s v : ℕ) → ReplacesLast xs (λ x y. y ≡ add x (set_of (pair s v ∷ []))) ys → StackCarries xs (text.coupon s v) ys
carries-coupon xs ys s v u = λ ts h.
    let l : Last u.front u.last ts = AllRepresent-last u.front u.last ts (subst (λ zs. AllRepresent zs ts) u.is h) in
    let c : ℕ = pair s v in (
      l.below ++ plan.coupon l.top c ∷ [],
      (l.below, l.top, l.is, refl),
      carries-push u.front ys l.below u.made (plan.coupon l.top c) l.all (u.value ∙ ap (λ z. add z (set_of (c ∷ []))) l.one) u.gives,
    )

pub carries-fold : (xs ys : List SketchLayout) (e : ℕ) → ReplacesLast xs (λ x y. (e ≤ x.lg_k) × (y ≡ folded x e)) ys → StackCarries xs (text.fold e) ys
carries-fold xs ys e u = λ ts h.
    let l : Last u.front u.last ts = AllRepresent-last u.front u.last ts (subst (λ zs. AllRepresent zs ts) u.is h) in
    let low : e ≤ effective_lg_k l.top = subst (λ k. e ≤ k) (ap (λ (z : Sketch). z.lg_k) l.one ∙ lg_k-outcome l.top) u.value.0 in (
      l.below ++ plan.fold l.top e ∷ [],
      (l.below, l.top, l.is, low, refl),
      carries-push u.front ys l.below u.made (plan.fold l.top e) l.all (u.value.1 ∙ ap (λ z. folded z e) l.one) u.gives,
    )

pub above-plans : (xs : List SketchLayout) (ts : List Plan) (e : ℕ) → AllRepresent xs ts → LastIsBelow xs e → LastPlanIsBelow ts e
above-plans xs ts e h a =
    let l : Last a.front a.last ts = AllRepresent-last a.front a.last ts (subst (λ zs. AllRepresent zs ts) a.is h) in
    (l.below, l.top, l.is, subst (λ k. k < e) (ap (λ (z : Sketch). z.lg_k) l.one ∙ lg_k-outcome l.top) a.below)

-- a fault of data is reported as one of the image
fault_of-data : (r : Reason) → kind_of r ≡ InvalidData → fault_of r ≡ faults.Image r
fault_of-data reasons.Truncated h = refl
fault_of-data reasons.Family h = refl
fault_of-data reasons.Version h = refl
fault_of-data reasons.LgK h = refl
fault_of-data reasons.Width h = refl
fault_of-data reasons.Stage h = refl
fault_of-data reasons.Preamble h = refl
fault_of-data reasons.LgArr h = refl
fault_of-data reasons.Count h = refl
fault_of-data reasons.Coupon h = refl
fault_of-data reasons.Register h = refl
fault_of-data reasons.Argument h = refl
fault_of-data reasons.Memory h = absurd (cc)

pub fault_of-image : (ts : List Plan) (bytes : List ℕ) (r : Reason) → first_fault bytes ≡ Some r → IsFaultOfStep ts (text.image bytes) (fault_of r)
fault_of-image ts bytes r h = (r, h, fault_of-data r (faults_are_of_data bytes r (first_fault_stands bytes r h)))

-- the bytes of a line's digits are its reading
pub image-read : (digits bytes : List ℕ) → text.image_step digits ≡ Ok (text.image bytes) → text.image_reading digits ≡ Ok (Some (text.image bytes))
image-read digits bytes same = ap text.as_reading same

pub carries-image : (xs : List SketchLayout) (bytes : List ℕ) (x : SketchLayout) → IsReadAs bytes (sketch_of x) → StackCarries xs (text.image bytes) (xs ++ x ∷ [])
carries-image xs bytes x r = λ ts h. (ts ++ plan.image (sketch_of x) ∷ [], (sketch_of x, r, refl), AllRepresent-push xs ts x (plan.image (sketch_of x)) h refl)

pub carries-union : (xs ys : List SketchLayout) (n at m : ℕ) (w : HllType) → n ≤ length xs → at ≡ length xs - n → MergesTail at m w xs ys → StackCarries xs (text.union n m w) ys
carries-union xs ys n at m w enough is union_of_batch = λ ts h.
    let below : List Plan = take at ts in
    let top : List Plan = drop at ts in
    let high : AllRepresent (drop at xs) top = AllRepresent-drop at xs ts h in
    let all : map sketch_of (drop at xs) ≡ outcomes (plans_of top) = AllRepresent-values (drop at xs) top high in
    let number : length top ≡ n = omega (arith, length-AllRepresent (drop at xs) top high, length-drop at xs, is, enough) in (
      below ++ plan.union_plan m w (plans_of top) ∷ [],
      (below, top, sym (take-append-drop at ts), number, refl),
      carries-push (take at xs) ys below union_of_batch.made (plan.union_plan m w (plans_of top)) (AllRepresent-take at xs ts h)
          (union_of_batch.value ∙ ap (λ zs. let z : Sketch = record (merge_all m (empty_union m) zs) { width = w } in z) all) union_of_batch.gives,
    )

-- the width of a gadget is unchanged
width-merge : (m : ℕ) (g x : Sketch) → (merge m g x).width ≡ g.width
width-merge m g x = elim (cases_Bool (is_empty x)) [
  | inl t ↦ ap (λ (y : Sketch). y.width) (cond-true (is_empty x) g (merge_content m g x x.content) t)
  | inr f ↦ ap (λ (y : Sketch). y.width) (cond-false (is_empty x) g (merge_content m g x x.content) f) ∙ of x.content
]
  where
    choose : (b : Bool) → (if b then record g { content = x.content } else add g (pairs_of x)).width ≡ g.width
    choose true = refl
    choose false = refl

    of : (c : Content) → (merge_content m g x c).width ≡ g.width
    of (coupons S p) = choose (is_empty g && nat_eq g.lg_k x.lg_k)
    of (registers R s) = refl

width-merge_all : (m : ℕ) (g : Sketch) (xs : List Sketch) → (merge_all m g xs).width ≡ g.width
width-merge_all m g [] = refl
width-merge_all m g (x ∷ xs) = width-merge_all m (merge m g x) xs ∙ width-merge m g x

-- a union that replaces the first sketch and those after it
pub merged_in_first : (xs ys : List SketchLayout) (at m : ℕ) (w : HllType) (x : SketchLayout) → w ≡ Hll8 → take (at + 1) ys ≡ take at xs ++ x ∷ [] →
    sketch_of x ≡ merge_all m (empty_union m) (map sketch_of (drop at xs)) → MergesTail at m w xs (take (at + 1) ys)
merged_in_first xs ys at m w x eight gives value = record {
  made = x;
  value = value ∙ (let g : Sketch = merge_all m (empty_union m) (map sketch_of (drop at xs)) in λ i. record g { width = (width-merge_all m (empty_union m) (map sketch_of (drop at xs)) ∙ sym eight) i });
  gives = gives;
}

-- ---- lines

module _ {L : Type 0} (reads : L → Reading) where
  pub Runs-more : (ts us vs : List Plan) (front : List L) (line : L) → Runs reads ts front us → Gives reads us line vs → Runs reads ts (front ++ line ∷ []) vs
  Runs-more ts us vs [] line h g = (vs, subst (λ zs. Gives reads zs line vs) h g, refl)
  Runs-more ts us vs (l ∷ front) line h g = (h.0, h.1, Runs-more h.0 us vs front line h.2 g)

module _ (reads : List ℕ → Reading) (old : List SketchLayout) (line : List ℕ) where
  -- a line that says a step
  module _ (step : PlanStep) (read : reads line ≡ Ok (Some step)) where
    pub gives-step : (new : List SketchLayout) → StackCarries old step new → StackGives reads old line new
    gives-step new carries = λ ts h. let next = carries ts h in (next.0, taken step read next.1, next.2)

    pub faults-step : (e : Fault) → StackRefuses old step e → StackFaults reads old line e
    faults-step e refuses = λ ts h. elim (refuses ts h) [ inl m ↦ inl m | inr f ↦ inr (refused step read f) ]

  -- a line that is read as another one is read in another way
  module _ (other_reads : List ℕ → Reading) (other : List ℕ) (alike : reads line ≡ other_reads other) where
    of_other : (ts us : List Plan) → Gives other_reads ts other us → Gives reads ts line us
    of_other ts us (skipped e is) = skipped (alike ∙ e) is
    of_other ts us (taken step e carries) = taken step (alike ∙ e) carries

    fault_of_other : (ts : List Plan) (e : Fault) → IsFaultOfLine other_reads ts other e → IsFaultOfLine reads ts line e
    fault_of_other ts e (unread is) = unread (alike ∙ is)
    fault_of_other ts e (refused step is f) = refused step (alike ∙ is) f

    pub gives-alike : (new : List SketchLayout) → StackGives other_reads old other new → StackGives reads old line new
    gives-alike new gives = λ ts h. let next = gives ts h in (next.0, of_other ts next.0 next.1, next.2)

    pub faults-alike : (e : Fault) → StackFaults other_reads old other e → StackFaults reads old line e
    faults-alike e faults = λ ts h. elim (faults ts h) [ inl m ↦ inl m | inr f ↦ inr (fault_of_other ts e f) ]
