-- SPDX-License-Identifier: Apache-2.0
-- Adding pairs once, twice and in turn, and the lg_k of a union.
use Rattle.std.proofs.Common.{◌≡◌, ℕ, ◌≤◌, Bool, true, false, cond, arith, nat_eq, eqb, not, ◌&&◌, if◌then◌else◌, List, [], ◌∷◌, Option, Some, None, refl, sym, ap, ◌∙◌, inl, inr}
use Rattle.std.specs.Prelude.{min}
use Rattle.std.specs.Cmp.Lexicographic.{pointwise}
use Rattle.std.specs.FinSet.{union, len, from_list}
use Rattle.std.proofs.lemmas.Bool.{cases_Bool, cond-true, cond-false}
use Rattle.hll_coupons.specs.Pair.{Pairs}
use Rattle.hll_coupons.specs.Fold.{fold_to, pairs}
use Rattle.hll_base.specs.Join.{join}
use Rattle.hll_base.specs.declared.hll_type.HllType.{HllType}
use Rattle.hll_base.proofs.Joins.{join_comm, join_itself, join_assoc}
use Rattle.hll_coupons.proofs.Folds.{fold_to-union}
use Rattle.hll_registers.specs.declared.estimate_state.EstimateState.{EstimateState}
use Rattle.hll_registers.specs.State.{cleared_state, state_after}
use Rattle.hll_registers.proofs.States.{same_decides, state_after-same, state_after-other, state_after-cleared_state}
use Rattle.hll_sketch.specs.Stage.{stage}
use Rattle.hll_sketch.specs.Value.{Content, coupons, registers, Sketch, is_empty, has_nonzero_registers}
use Rattle.hll_sketch.specs.Adding.{content_for, content_with, add}
use Rattle.hll_sketch.specs.Merging.{merge, merge_content, merge_registers, empty_union}
use Rattle.hll_sketch.specs.Laws.{AddOfAdd, AddEach, add_in_turn, UnionLgK, Event, of_sketch, of_pairs, gadget_after_all, merged_sketches}
use Rattle.hll_sketch.specs.Joined.{least_lg_k}
use Rattle.hll_coupons.proofs.Unions.{union_assoc, len_union_le, from_list_cons, union_none}
use Rattle.hll_sketch.proofs.Stages.{stage_again, stage_none}

-- if the maximum with both lists changes nothing, the maximum with the first changes nothing
first_same : (R F G : List ℕ) → R ≡ join (join R F) G → R ≡ join R F
first_same R F G e =
    e ∙ join_assoc R F G ∙ ap (join R) (join_comm F G ∙ ap (join G) (sym (join_itself F)) ∙ sym (join_assoc G F F))
    ∙ sym (join_assoc R (join G F) F) ∙ ap (λ Q. join Q F) (ap (join R) (join_comm G F) ∙ sym (join_assoc R F G) ∙ sym e)

states : (R F G : List ℕ) (s : EstimateState) → state_after (join R F) (join (join R F) G) (state_after R (join R F) s) ≡ state_after R (join (join R F) G) s
states R F G s = elim (cases_Bool (pointwise nat_eq R (join R F))) [
  | inl t ↦ let same : R ≡ join R F = (same_decides R (join R F)).0 t in
      ap (state_after (join R F) (join (join R F) G)) (state_after-same R (join R F) s same) ∙ ap (λ Q. state_after Q (join (join R F) G) s) (sym same)
  | inr f ↦ ap (state_after (join R F) (join (join R F) G)) (cond-false (pointwise nat_eq R (join R F)) s cleared_state f)
      ∙ state_after-cleared_state (join R F) (join (join R F) G)
      ∙ sym (state_after-other R (join (join R F) G) s (λ e. let t : pointwise nat_eq R (join R F) ≡ true = (same_decides R (join R F)).1 (first_same R F G e) in cc))
]

-- the maximum of registers and others, with their estimate state
abbrev update_with_pairs : List ℕ → List ℕ → EstimateState → Content
update_with_pairs R Q state = registers (join R Q) (state_after R (join R Q) state)

raised_again : (R F G : List ℕ) (s : EstimateState) → update_with_pairs (join R F) G (state_after R (join R F) s) ≡ update_with_pairs R (join F G) s
raised_again R F G s = λ i. registers (join_assoc R F G i) ((states R F G s ∙ ap (λ Q. state_after R Q s) (join_assoc R F G)) i)

pub added_again : (k : ℕ) (c : Content) (T U : Pairs) → content_with k (content_with k c T) U ≡ content_with k c (union T U)
added_again k (registers R s) T U = raised_again R (fold_to T k) (fold_to U k) s ∙ ap (λ F. update_with_pairs R F s) (sym (fold_to-union T U k))
added_again k (coupons S p) T U =
    let V : Pairs = union S T in
    let whole : union V U ≡ union S (union T U) = union_assoc S T U in
    let more : len V ≤ len (union V U) = len_union_le V U in
    let reach : (o : Option ℕ) → stage k p (len V) ≡ o → content_with k (content_for k V o) U ≡ content_for k (union V U) (stage k p (len (union V U))) = λ o.
    elim o as (λ o. stage k p (len V) ≡ o → content_with k (content_for k V o) U ≡ content_for k (union V U) (stage k p (len (union V U)))) [
      | Some q ↦ λ e. ap (content_for k (union V U)) (stage_again k p q (len V) (len (union V U)) more e)
      | None ↦ λ e.
          (λ i. registers (sym (fold_to-union V U k) i) (state_after-cleared_state (fold_to V k) (join (fold_to V k) (fold_to U k)) i))
          ∙ sym (ap (content_for k (union V U)) (stage_none k p (len V) (len (union V U)) more e))
    ] in
    reach (stage k p (len V)) refl ∙ ap (λ W. content_for k W (stage k p (len W))) whole

pub add_again : AddOfAdd
add_again x T U = ap (λ c. record x { content = c }) (added_again x.lg_k x.content T U)

each_from : (x : Sketch) (T : Pairs) (cs : List ℕ) → add_in_turn (add x T) cs ≡ add x (union T (from_list cs))
each_from x T [] = ap (add x) (sym (union_none T))
each_from x T (c ∷ cs) =
    ap (λ y. add_in_turn y cs) (add_again x T (from_list (c ∷ [])))
    ∙ each_from x (union T (from_list (c ∷ []))) cs
    ∙ ap (add x) (union_assoc T (from_list (c ∷ [])) (from_list cs) ∙ ap (union T) (sym (from_list_cons c cs)))

pub add_each : AddEach
add_each x c cs = each_from x (from_list (c ∷ [])) cs ∙ ap (add x) (sym (from_list_cons c cs))

-- ---- the lg_k of a union

pub lg_k-merge : (m : ℕ) (g x : Sketch) → (merge m g x).lg_k ≡ (if has_nonzero_registers x then min g.lg_k x.lg_k else g.lg_k)
lg_k-merge m g x = of x.lg_k x.width x.content
  where
    choose : (b d : Bool) (x : Sketch) (S : Pairs) → (if b then g else (if d then record g { content = x.content } else add g S)).lg_k ≡ g.lg_k
    choose true d x S = refl
    choose false true x S = refl
    choose false false x S = refl

    pick : (b : Bool) (y : Sketch) → (if b then g else y).lg_k ≡ (if not b then y.lg_k else g.lg_k)
    pick true y = refl
    pick false y = refl

    of : (l : ℕ) (w : HllType) (c : Content) → let x : Sketch = record { lg_k = l; width = w; content = c } in (merge m g x).lg_k ≡ (if has_nonzero_registers x then min g.lg_k l else g.lg_k)
    of l w (coupons S p) = choose (eqb (len S) 0) (is_empty g && nat_eq g.lg_k l) (record { lg_k = l; width = w; content = coupons S p }) S
    of l w (registers R s) = pick (eqb (len (pairs R)) 0) (merge_registers m g l R s)

-- the lg_k after one more sketch
abbrev pub lowered : ℕ → Sketch → ℕ
lowered e x = if has_nonzero_registers x then min x.lg_k e else e

pub least-lowered : (e : ℕ) (x : Sketch) (xs : List Sketch) → least_lg_k (lowered e x) xs ≡ lowered (least_lg_k e xs) x
least-lowered e x [] = refl
least-lowered e x (y ∷ xs) = ap (λ n. cond (has_nonzero_registers y) (min y.lg_k n) n) (least-lowered e x xs)
    ∙ (elim (has_nonzero_registers x) as (λ b. cond (has_nonzero_registers y) (min y.lg_k (cond b (min x.lg_k n) n)) (cond b (min x.lg_k n) n) ≡ cond b (min x.lg_k (cond (has_nonzero_registers y) (min y.lg_k n) n)) (cond (has_nonzero_registers y) (min y.lg_k n) n)) [
      | false ↦ refl
      | true ↦ elim (has_nonzero_registers y) as (λ d. cond d (min y.lg_k (min x.lg_k n)) (min x.lg_k n) ≡ min x.lg_k (cond d (min y.lg_k n) n)) [ true ↦ omega arith | false ↦ refl ]
    ])
  where
    n : ℕ
    n = least_lg_k e xs

-- the lg_k of a gadget after one more sketch, and then others
pub least-merge : (bound : ℕ) (g x : Sketch) (xs : List Sketch) → least_lg_k (merge bound g x).lg_k xs ≡ least_lg_k g.lg_k (x ∷ xs)
least-merge bound g x xs =
    let next : (merge bound g x).lg_k ≡ lowered g.lg_k x = lg_k-merge bound g x ∙ elim (has_nonzero_registers x) as (λ b. cond b (min g.lg_k x.lg_k) g.lg_k ≡ cond b (min x.lg_k g.lg_k) g.lg_k) [ true ↦ omega arith | false ↦ refl ] in
    ap (λ k. least_lg_k k xs) next ∙ least-lowered g.lg_k x xs

lg_k-gadget_after_all : (bound : ℕ) (g : Sketch) (es : List Event) → (gadget_after_all bound g es).lg_k ≡ least_lg_k g.lg_k (merged_sketches es)
lg_k-gadget_after_all bound g [] = refl
lg_k-gadget_after_all bound g (of_sketch x ∷ es) = lg_k-gadget_after_all bound (merge bound g x) es ∙ least-merge bound g x (merged_sketches es)
lg_k-gadget_after_all bound g (of_pairs T ∷ es) = lg_k-gadget_after_all bound (add g T) es

pub union_lg_k : UnionLgK
union_lg_k bound es = lg_k-gadget_after_all bound (empty_union bound) es

pub merge_of_empty : (bound : ℕ) (g x : Sketch) → is_empty x ≡ true → merge bound g x ≡ g
merge_of_empty bound g x e = cond-true (is_empty x) g _ e

pub merge_of_some : (bound : ℕ) (g x : Sketch) → is_empty x ≡ false → merge bound g x ≡ merge_content bound g x x.content
merge_of_some bound g x e = cond-false (is_empty x) g _ e
