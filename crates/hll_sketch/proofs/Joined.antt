-- SPDX-License-Identifier: Apache-2.0
-- Canonical sketches that are merged in turn give their `join_value`, and it is canonical.
use Rattle.std.proofs.Math.Bool.{or-true}
use Rattle.std.proofs.Common.{◌≡◌, ℕ, ◌++◌, ◌≤◌, Bool, true, false, cond, not, ◌&&◌, ◌||◌, nat_eq, eqb, leb, List, [], ◌∷◌, Some, None, refl, sym, ap, subst, ◌∙◌, arith, inl, inr, map, All}
use Rattle.std.specs.Prelude.{min}
use Rattle.std.specs.List.{list_any, AllByRecursion}
use Rattle.std.specs.Ordering.{nat_cmp}
use Rattle.std.specs.FinSet.{empty, union, len, len-empty, empty_of_len}
use Rattle.std.proofs.lemmas.Bool.{cases_Bool, cond-true, cond-false, and_parts, or_parts, or_cases, true≢false, eqb-true, eq-eqb}
use Rattle.std.proofs.lemmas.List.Elements.{All-head, All-tail}
use Rattle.hll_coupons.specs.Pair.{Pairs}
use Rattle.hll_coupons.specs.Fold.{fold_to, pairs}
use Rattle.hll_base.specs.Join.{join}
use Rattle.hll_coupons.proofs.Folds.{fold_to-union}
use Rattle.hll_base.specs.declared.hll_type.HllType.{HllType}
use Rattle.hll_base.specs.declared.hll_type.HllType.TheVariants.{Hll8}
use Rattle.hll_registers.specs.declared.estimate_state.EstimateState.{EstimateState}
use Rattle.hll_registers.specs.State.{cleared_state, state_after}
use Rattle.hll_kernels.specs.Packed.{AreRegisters}
use Rattle.hll_registers.proofs.States.{state_after-cleared_state}
use Rattle.hll_sketch.specs.Stage.{stage}
use Rattle.hll_sketch.specs.Value.{Content, coupons, registers, Sketch, pairs_in, pairs_of, is_empty, in_registers, has_nonzero_registers, ArePairs, IsLegal}
use Rattle.hll_sketch.specs.Layout.{SketchLayout, sketch_of}
use Rattle.hll_sketch.specs.Meaning.{Means}
use Rattle.hll_sketch.specs.Adding.{content_for, content_with, add}
use Rattle.hll_sketch.specs.Canonical.{IsCanonicalClearedContent, IsCanonicalCleared}
use Rattle.hll_sketch.specs.Union.{UnionLayout, gadget_of}
use Rattle.hll_sketch.specs.Joined.{all_pairs, least_lg_k, join_value_of_pairs, join_value, IsCanonicalOfPairs, MergeOfCanonical, IsMergeOf}
use Rattle.hll_sketch.specs.Merging.{merge, merge_coupons, merge_content, state_after_merge, merge_all, empty_union}
use Rattle.hll_sketch.proofs.Adding.{added_again, lowered, least-lowered, merge_of_empty, merge_of_some}
use Rattle.hll_sketch.proofs.LegalSketches.{ArePairs-union, ArePairs-pairs, fold_are_registers, pairs_are}
use Rattle.hll_sketch.proofs.Meanings.{MeansPairs, nothing, ArePairs-empty, folds_as, Means-content_for}
use Rattle.hll_coupons.proofs.Unions.{union_assoc, len_union_le, union_left, union_right, or_assoc, or-false, union-empty, union_none}
use Rattle.hll_sketch.proofs.Stages.{stage_again}

-- ---- one merge

-- the union so far
pub record SoFar (m e : ℕ) (P : Pairs) (any : Bool) : Type 0 where
  pub small : m ≤ 21
  pub below : e ≤ m
  pub are : ArePairs P
  pub none : any ≡ false → e ≡ m
  pub some : any ≡ true → P ≡ empty → ⊥

Means-join_value_of_pairs : (m : ℕ) (w : HllType) (e : ℕ) (P : Pairs) (any : Bool) → Means (join_value_of_pairs m w e P any).lg_k (join_value_of_pairs m w e P any).content P
Means-join_value_of_pairs m w e P true = refl
Means-join_value_of_pairs m w e P false = Means-content_for m P P (stage m 3 (len P)) refl

-- a set in the smallest table, and then more of it
settled_again : (m : ℕ) (P S : Pairs) → content_with m (content_for m P (stage m 3 (len P))) S ≡ content_for m (union P S) (stage m 3 (len (union P S)))
settled_again m P S =
    let from : Pairs → Content = λ T. content_for m T (stage m 3 (len T)) in
    ap (λ T. content_with m (from T) S) (sym (union-empty P)) ∙ added_again m (coupons empty 3) P S ∙ ap from (union-empty (union P S))

add-join_value_of_pairs : (m : ℕ) (w : HllType) (e : ℕ) (P S : Pairs) (any : Bool) → add (join_value_of_pairs m w e P any) S ≡ join_value_of_pairs m w e (union P S) any
add-join_value_of_pairs m w e P S true = λ i. record { lg_k = e; width = w; content = registers (sym (fold_to-union P S e) i) (state_after-cleared_state (fold_to P e) (join (fold_to P e) (fold_to S e)) i) }
add-join_value_of_pairs m w e P S false = ap (λ c. let x : Sketch = record { lg_k = m; width = w; content = c } in x) (settled_again m P S)

-- coupons copied with their table by an empty gadget
whole : (m : ℕ) (w : HllType) (e l : ℕ) (P S : Pairs) (p : ℕ) (any : Bool) → SoFar m e P any → stage l 3 (len S) ≡ Some p → is_empty (join_value_of_pairs m w e P any) ≡ true → (join_value_of_pairs m w e P any).lg_k ≡ l →
    record (join_value_of_pairs m w e P any) { content = coupons S p } ≡ join_value_of_pairs m w e (union P S) any
whole m w e l P S p true h canonical bare same = absurd (h.some refl (nothing e (join_value_of_pairs m w e P true).content P (omega (arith, h.small, h.below)) h.are refl bare))
whole m w e l P S p false h canonical bare same =
    let none : P ≡ empty = nothing m (join_value_of_pairs m w e P false).content P h.small h.are (Means-join_value_of_pairs m w e P false) bare in
    let at : stage m 3 (len S) ≡ Some p = ap (λ k. stage k 3 (len S)) same ∙ canonical in
    let all : union P S ≡ S = ap (λ T. union T S) none ∙ union-empty S in
    let made : Content → Sketch = λ c. record { lg_k = m; width = w; content = c } in
    sym (ap (λ T. made (content_for m T (stage m 3 (len T)))) all ∙ ap (λ o. made (content_for m S o)) at)

and-false : (a : Bool) → (a && false) ≡ false
and-false true = refl
and-false false = refl

has_none : (x : Sketch) → is_empty x ≡ true → has_nonzero_registers x ≡ false
has_none x e = ap (λ b. in_registers x.content && not b) e ∙ and-false (in_registers x.content)

no_pairs : (x : Sketch) → is_empty x ≡ true → pairs_of x ≡ empty
no_pairs x e = empty_of_len (pairs_of x) (eqb-true (len (pairs_of x)) 0 e)

lg_k-join_value_of_pairs : (m : ℕ) (w : HllType) (e : ℕ) (P : Pairs) (any : Bool) → SoFar m e P any → (join_value_of_pairs m w e P any).lg_k ≡ e
lg_k-join_value_of_pairs m w e P true h = refl
lg_k-join_value_of_pairs m w e P false h = sym (h.none refl)

width-join_value_of_pairs : (m : ℕ) (w : HllType) (e : ℕ) (P : Pairs) (any : Bool) → (join_value_of_pairs m w e P any).width ≡ w
width-join_value_of_pairs m w e P true = refl
width-join_value_of_pairs m w e P false = refl

state_after_merge-cleared_state : (m : ℕ) (g : Sketch) (l : ℕ) (s : EstimateState) → s ≡ cleared_state → state_after_merge m g l s ≡ cleared_state
state_after_merge-cleared_state m g l s h = elim (is_empty g && leb l m) as (λ b. cond b s cleared_state ≡ cleared_state) [ true ↦ h | false ↦ refl ]

merge_joint : (m e : ℕ) (P : Pairs) (any : Bool) (x : Sketch) → SoFar m e P any → x.lg_k ≤ 21 → IsCanonicalCleared x →
    merge m (join_value_of_pairs m Hll8 e P any) x ≡ join_value_of_pairs m Hll8 (lowered e x) (union P (pairs_of x)) (any || has_nonzero_registers x)
merge_joint m e P any x h small canonical = elim (cases_Bool (is_empty x)) [
  | inl bare ↦
      let no_reg : has_nonzero_registers x ≡ false = has_none x bare in
      let all : union P (pairs_of x) ≡ P = ap (union P) (no_pairs x bare) ∙ union_none P in
      merge_of_empty m g x bare ∙ sym (λ i. join_value_of_pairs m Hll8 (cond (no_reg i) (min x.lg_k e) e) (all i) ((ap (λ b. any || b) no_reg ∙ or-false any) i))
  | inr full ↦ merge_of_some m g x full ∙ of x.lg_k x.width x.content small canonical full
]
  where
    g : Sketch
    g = join_value_of_pairs m Hll8 e P any

    of : (l : ℕ) (w : HllType) (c : Content) → let x : Sketch = record { lg_k = l; width = w; content = c } in
        l ≤ 21 → IsCanonicalCleared x → is_empty x ≡ false → merge_content m (join_value_of_pairs m Hll8 e P any) x c ≡ join_value_of_pairs m Hll8 (lowered e x) (union P (pairs_of x)) (any || has_nonzero_registers x)
    of l w (coupons S p) small canonical full =
        let x : Sketch = record { lg_k = l; width = w; content = coupons S p } in
        let y : Sketch = join_value_of_pairs m Hll8 e P any in
        (elim (cases_Bool (is_empty y && nat_eq y.lg_k l)) as (λ _. merge_coupons y x ≡ join_value_of_pairs m Hll8 e (union P S) any) [
          | inl t ↦
              let both = and_parts (is_empty y) (nat_eq y.lg_k l) t in
              cond-true (is_empty y && nat_eq y.lg_k l) (record y { content = coupons S p }) (add y S) t ∙ whole m Hll8 e l P S p any h canonical both.0 (eqb-true y.lg_k l both.1)
          | inr f ↦ cond-false (is_empty y && nat_eq y.lg_k l) (record y { content = coupons S p }) (add y S) f ∙ add-join_value_of_pairs m Hll8 e P S any
        ]) ∙ ap (join_value_of_pairs m Hll8 e (union P S)) (sym (or-false any))
    of l w (registers R s) small canonical full =
        let y : Sketch = join_value_of_pairs m Hll8 e P any in
        let has : not (eqb (len (pairs R)) 0) ≡ true = ap not full in
        let lg : y.lg_k ≡ e = lg_k-join_value_of_pairs m Hll8 e P any h in
        let new : min y.lg_k l ≡ min l e = omega arith in
        let part : fold_to (pairs_of y) (min l e) ≡ fold_to P (min l e) = folds_as y.lg_k (min l e) y.content P (omega (arith, h.small, h.below)) (omega arith) (Means-join_value_of_pairs m Hll8 e P any) in
        let all : fold_to (union (pairs_of y) (pairs R)) (min l e) ≡ fold_to (union P (pairs R)) (min l e) = fold_to-union (pairs_of y) (pairs R) (min l e) ∙ ap (λ F. join F (fold_to (pairs R) (min l e))) part ∙ sym (fold_to-union P (pairs R) (min l e)) in
        let made : ℕ → HllType → List ℕ → EstimateState → Sketch = λ k w R s. record { lg_k = k; width = w; content = registers R s } in
        (λ i. made (new i) (width-join_value_of_pairs m Hll8 e P any i) ((ap (fold_to (union (pairs_of y) (pairs R))) new ∙ all) i) (state_after_merge-cleared_state m y l s canonical i))
        ∙ sym (λ i. join_value_of_pairs m Hll8 (cond (has i) (min l e) e) (union P (pairs R)) ((ap (λ b. any || b) has ∙ or-true any) i))

-- ---- what remains true

has_some : (x : Sketch) → has_nonzero_registers x ≡ true → pairs_of x ≡ empty → ⊥
has_some x h none = true≢false (sym h ∙ has_none x (eq-eqb (len (pairs_of x)) 0 (ap len none ∙ len-empty nat_cmp)))

pub lowered_le : (e : ℕ) (x : Sketch) → lowered e x ≤ e
lowered_le e x = elim (has_nonzero_registers x) as (λ b. cond b (min x.lg_k e) e ≤ e) [ true ↦ omega arith | false ↦ omega arith ]

pub SoFar-more : (m e : ℕ) (P : Pairs) (any : Bool) (x : Sketch) → SoFar m e P any → ArePairs (pairs_of x) → SoFar m (lowered e x) (union P (pairs_of x)) (any || has_nonzero_registers x)
SoFar-more m e P any x h are = record {
  small = h.small;
  below = omega (arith, h.below, lowered_le e x);
  are = ArePairs-union P (pairs_of x) h.are are;
  none = λ f. let parts = or_parts any (has_nonzero_registers x) f in cond-false (has_nonzero_registers x) (min x.lg_k e) e parts.1 ∙ h.none parts.0;
  some = λ t z. elim (or_cases any (has_nonzero_registers x) t) [
    | inl before ↦ h.some before (union_left P (pairs_of x) z)
    | inr now ↦ has_some x now (union_right P (pairs_of x) z)
  ];
}

merge_all-join_value_of_pairs : (m e : ℕ) (P : Pairs) (any : Bool) (xs : List Sketch) → SoFar m e P any → AllByRecursion IsCanonicalOfPairs xs →
    merge_all m (join_value_of_pairs m Hll8 e P any) xs ≡ join_value_of_pairs m Hll8 (least_lg_k e xs) (union P (all_pairs xs)) (any || list_any has_nonzero_registers xs)
merge_all-join_value_of_pairs m e P any [] h f = λ i. join_value_of_pairs m Hll8 e (sym (union_none P) i) (sym (or-false any) i)
merge_all-join_value_of_pairs m e P any (x ∷ xs) h f =
    ap (λ g. merge_all m g xs) (merge_joint m e P any x h f.0.small f.0.canonical)
    ∙ merge_all-join_value_of_pairs m (lowered e x) (union P (pairs_of x)) (any || has_nonzero_registers x) xs (SoFar-more m e P any x h f.0.are) f.1
    ∙ (λ i. join_value_of_pairs m Hll8 (least-lowered e x xs i) (union_assoc P (pairs_of x) (all_pairs xs) i) (or_assoc any (has_nonzero_registers x) (list_any has_nonzero_registers xs) i))

pub nothing-yet : (m : ℕ) → m ≤ 21 → SoFar m m empty false
nothing-yet m h = record { small = h; below = omega arith; are = ArePairs-empty; none = λ _. refl; some = λ t. absurd (true≢false (sym t)) }

start : (m : ℕ) → empty_union m ≡ join_value_of_pairs m Hll8 m empty false
start m = sym (ap (λ n. let x : Sketch = record { lg_k = m; width = Hll8; content = content_for m empty (stage m 3 n) } in x) (len-empty nat_cmp))

pub width-changed : (m : ℕ) (w : HllType) (e : ℕ) (P : Pairs) (any : Bool) → record (join_value_of_pairs m Hll8 e P any) { width = w } ≡ join_value_of_pairs m w e P any
width-changed m w e P true = refl
width-changed m w e P false = refl

-- canonical sketches merged in turn give their `join_value`
pub merge_of_canonical : MergeOfCanonical
merge_of_canonical m xs small f =
    ap (λ g. merge_all m g xs) (start m)
    ∙ merge_all-join_value_of_pairs m m empty false xs (nothing-yet m small) f
    ∙ ap (λ P. join_value_of_pairs m Hll8 (least_lg_k m xs) P (list_any has_nonzero_registers xs)) (union-empty (all_pairs xs))

-- and so at a width
pub merge_at_width : (m : ℕ) (w : HllType) (xs : List Sketch) → m ≤ 21 → AllByRecursion IsCanonicalOfPairs xs → record (merge_all m (empty_union m) xs) { width = w } ≡ join_value m w xs
merge_at_width m w xs small f =
    ap (λ (x : Sketch). let y : Sketch = record x { width = w } in y) (merge_of_canonical m xs small f)
    ∙ width-changed m w (least_lg_k m xs) (all_pairs xs) (list_any has_nonzero_registers xs)

-- ---- what is made of canonical sketches is canonical

pub IsCanonicalCleared-join_value_of_pairs : (m : ℕ) (w : HllType) (e : ℕ) (P : Pairs) (any : Bool) → IsCanonicalCleared (join_value_of_pairs m w e P any)
IsCanonicalCleared-join_value_of_pairs m w e P true = refl
IsCanonicalCleared-join_value_of_pairs m w e P false = elim (stage m 3 (len P)) as (λ o. stage m 3 (len P) ≡ o → IsCanonicalClearedContent m (content_for m P o)) [ Some p ↦ λ h. h | None ↦ λ _. refl ] refl

pub IsCanonicalCleared-content_with : (k : ℕ) (c : Content) (T : Pairs) → IsCanonicalClearedContent k c → IsCanonicalClearedContent k (content_with k c T)
IsCanonicalCleared-content_with k (registers R s) T h = ap (state_after R (join R (fold_to T k))) h ∙ state_after-cleared_state R (join R (fold_to T k))
IsCanonicalCleared-content_with k (coupons S p) T h =
    let whole : stage k p (len (union S T)) ≡ stage k 3 (len (union S T)) = stage_again k 3 p (len S) (len (union S T)) (len_union_le S T) h in
    elim (stage k p (len (union S T))) as (λ o. stage k p (len (union S T)) ≡ o → IsCanonicalClearedContent k (content_for k (union S T) o)) [ Some q ↦ λ e. sym whole ∙ e | None ↦ λ _. refl ] refl

pub IsCanonicalOfPairs-from : (x : Sketch) (P : Pairs) → MeansPairs x P → IsCanonicalCleared x → IsCanonicalOfPairs x
IsCanonicalOfPairs-from x P g h = record { small = g.small; are = of x.lg_k x.content g.small g.are g.meaning; canonical = h }
  where
    of : (k : ℕ) (c : Content) → k ≤ 21 → ArePairs P → Means k c P → ArePairs (pairs_in c)
    of k (coupons S p) small are m = subst ArePairs (sym m) are
    of k (registers R s) small are m = ArePairs-pairs k R small (subst (AreRegisters k) (sym m) (fold_are_registers P k are))

pub legal_canonical : (x : Sketch) → IsLegal x → IsCanonicalCleared x → IsCanonicalOfPairs x
legal_canonical x legal canonical = record { small = legal.lg_k.high; are = pairs_are x.lg_k x.content legal.lg_k.high legal.content; canonical = canonical }

-- sketches of a list that are legal and canonical
canonical_each : (xs : List SketchLayout) → All (λ x. IsLegal (sketch_of x)) xs → All IsCanonicalCleared (map sketch_of xs) → AllByRecursion IsCanonicalOfPairs (map sketch_of xs)
canonical_each [] legal canonical = tt
canonical_each (x ∷ xs) legal canonical = (
  legal_canonical (sketch_of x) (All-head (λ x. IsLegal (sketch_of x)) x xs legal) (All-head IsCanonicalCleared (sketch_of x) (map sketch_of xs) canonical),
  canonical_each xs (All-tail (λ x. IsLegal (sketch_of x)) x xs legal) (All-tail IsCanonicalCleared (sketch_of x) (map sketch_of xs) canonical),
)

-- ---- unions

pub joined_each : (u : UnionLayout) (xs : List Sketch) → u.lg_max_k ≤ 21 → AllByRecursion IsCanonicalOfPairs xs → gadget_of u ≡ merge_all u.lg_max_k (empty_union u.lg_max_k) xs → IsMergeOf xs u
joined_each u xs small each is =
    let m : ℕ = u.lg_max_k in
    let at : gadget_of u ≡ join_value m Hll8 xs = is ∙ merge_of_canonical m xs small each in
    record {
      small = small;
      merged = each;
      value = at;
      canonical = subst IsCanonicalCleared (sym at) (IsCanonicalCleared-join_value_of_pairs m Hll8 (least_lg_k m xs) (all_pairs xs) (list_any has_nonzero_registers xs));
    }

-- the union of a list
pub joined_list : (m : ℕ) (u : UnionLayout) (xs : List SketchLayout) → u.lg_max_k ≡ m → gadget_of u ≡ merge_all m (empty_union m) (map sketch_of xs) → m ≤ 21 →
    All (λ x. IsLegal (sketch_of x)) xs → All IsCanonicalCleared (map sketch_of xs) → IsMergeOf (map sketch_of xs) u
joined_list m u xs bound is small legal canonical =
    joined_each u (map sketch_of xs) (omega (arith, bound)) (canonical_each xs legal canonical) (subst (λ k. gadget_of u ≡ merge_all k (empty_union k) (map sketch_of xs)) (sym bound) is)

merged_last : (m : ℕ) (g x : Sketch) (xs : List Sketch) → merge m (merge_all m g xs) x ≡ merge_all m g (xs ++ x ∷ [])
merged_last m g x [] = refl
merged_last m g x (y ∷ xs) = merged_last m (merge m g y) x xs

with_last : (xs : List Sketch) (x : Sketch) → AllByRecursion IsCanonicalOfPairs xs → IsCanonicalOfPairs x → AllByRecursion IsCanonicalOfPairs (xs ++ x ∷ [])
with_last [] x f h = (h, tt)
with_last (y ∷ xs) x f h = (f.0, with_last xs x f.1 h)

-- one more sketch is merged
pub joined_more : (u v : UnionLayout) (x : Sketch) (xs : List Sketch) → v.lg_max_k ≡ u.lg_max_k → gadget_of v ≡ merge u.lg_max_k (gadget_of u) x → IsLegal x → IsMergeOf xs u → IsCanonicalCleared x →
    IsMergeOf (xs ++ x ∷ []) v
joined_more u v x xs bound is legal join canonical =
    let m : ℕ = u.lg_max_k in
    joined_each v (xs ++ x ∷ []) (omega (arith, bound, join.small)) (with_last xs x join.merged (legal_canonical x legal canonical))
    (subst (λ k. gadget_of v ≡ merge_all k (empty_union k) (xs ++ x ∷ [])) (sym bound)
    (is ∙ ap (λ y. merge m y x) (join.value ∙ sym (merge_of_canonical m xs join.small join.merged)) ∙ merged_last m (empty_union m) x xs))
