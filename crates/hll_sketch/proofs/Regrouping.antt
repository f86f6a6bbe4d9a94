-- SPDX-License-Identifier: Apache-2.0
-- The value of a union depends on neither the order, nor the repetition, nor the grouping of the sketches.
use Rattle.std.specs.Cmp.{both_ways}
use Rattle.std.proofs.Common.{◌≡◌, ℕ, ◌<◌, ◌≤◌, zero, suc, Bool, true, false, cond, not, ◌||◌, eqb, List, [], ◌∷◌, ◌++◌, Option, Some, None, length, refl, sym, ap, ◌∙◌, arith, inl, inr}
use Rattle.std.specs.Prelude.{min}
use Rattle.std.specs.List.{list_any, AllByRecursion}
use Rattle.std.specs.Ordering.{nat_cmp}
use Rattle.std.specs.FinSet.{empty, union, len, len-empty, contains, contains-empty}
use Rattle.std.proofs.lemmas.Bool.{cases_Bool, cond-true, cond-false, or_parts, or_cases, or_left, or_right, true≢false}
use Rattle.hll_coupons.specs.Pair.{Pairs}
use Rattle.hll_coupons.specs.Fold.{fold_to, pairs}
use Rattle.hll_base.specs.Join.{join}
use Rattle.std.specs.List.{slice_index_or, Contains}
use Rattle.hll_coupons.proofs.Folds.{fold_to-union}
use Rattle.hll_base.specs.declared.hll_type.HllType.{HllType}
use Rattle.hll_base.specs.declared.hll_type.HllType.TheVariants.{Hll8}
use Rattle.std.proofs.lemmas.List.Elements.{Contains-append_left, Contains-append_right, Contains-append_cases}
use Rattle.hll_sketch.specs.Union.{gadget_of}
use Rattle.hll_sketch.specs.Stage.{stage}
use Rattle.hll_registers.specs.State.{cleared_state}
use Rattle.hll_sketch.specs.Value.{registers, Sketch, pairs_of, has_nonzero_registers, ArePairs}
use Rattle.hll_sketch.specs.Adding.{content_for}
use Rattle.hll_sketch.specs.Joined.{all_pairs, least_lg_k, join_value_of_pairs, join_value, UnionOfSame, UnionOfUnion, IsCanonicalOfPairs, MergesOfSame, MergeOfMerge}
use Rattle.hll_coupons.proofs.Unions.{same_members, union_assoc, contains_union, len_union_le, or_assoc, or-false, union-empty, union_none}
use Rattle.hll_sketch.proofs.Stages.{stage_none}
use Rattle.hll_sketch.proofs.Meanings.{nothing, folds_as}
use Rattle.hll_sketch.proofs.Adding.{lowered, least-lowered}
use Rattle.hll_sketch.proofs.Joined.{SoFar, SoFar-more, lowered_le, nothing-yet, width-changed}

-- ---- order and repetition

reach_pairs : (ys : List Sketch) (x : Sketch) (q k : ℕ) → k < length ys → slice_index_or ys k x ≡ x → contains (pairs_of x) q ≡ true → contains (all_pairs ys) q ≡ true
reach_pairs [] x q k h e c = absurd (omega arith)
reach_pairs (y ∷ ys) x q zero h e c = contains_union (pairs_of y) (all_pairs ys) q ∙ or_left (contains (pairs_of y) q) (contains (all_pairs ys) q) (ap (λ z. contains (pairs_of z) q) e ∙ c)
reach_pairs (y ∷ ys) x q (suc k) h e c = contains_union (pairs_of y) (all_pairs ys) q ∙ or_right (contains (pairs_of y) q) (contains (all_pairs ys) q) (reach_pairs ys x q k (omega arith) e c)

from_pairs : (xs : List Sketch) (q : ℕ) (G : Type 0) → ((x : Sketch) → Contains xs x → contains (pairs_of x) q ≡ true → G) → contains (all_pairs xs) q ≡ true → G
from_pairs [] q G f c = absurd (true≢false (sym c ∙ contains-empty nat_cmp q))
from_pairs (x ∷ xs) q G f c = elim (or_cases (contains (pairs_of x) q) (contains (all_pairs xs) q) (sym (contains_union (pairs_of x) (all_pairs xs) q) ∙ c)) [
  | inl h ↦ f x (0, omega arith, refl) h
  | inr h ↦ from_pairs xs q G (λ y m d. f y (suc m.0, omega (arith, m.1), m.2) d) h
]

reach_any : (ys : List Sketch) (x : Sketch) (k : ℕ) → k < length ys → slice_index_or ys k x ≡ x → has_nonzero_registers x ≡ true → list_any has_nonzero_registers ys ≡ true
reach_any [] x k h e c = absurd (omega arith)
reach_any (y ∷ ys) x zero h e c = or_left (has_nonzero_registers y) (list_any has_nonzero_registers ys) (ap has_nonzero_registers e ∙ c)
reach_any (y ∷ ys) x (suc k) h e c = or_right (has_nonzero_registers y) (list_any has_nonzero_registers ys) (reach_any ys x k (omega arith) e c)

from_any : (xs : List Sketch) (G : Type 0) → ((x : Sketch) → Contains xs x → has_nonzero_registers x ≡ true → G) → list_any has_nonzero_registers xs ≡ true → G
from_any [] G f c = absurd (true≢false (sym c))
from_any (x ∷ xs) G f c = elim (or_cases (has_nonzero_registers x) (list_any has_nonzero_registers xs) c) [
  | inl h ↦ f x (0, omega arith, refl) h
  | inr h ↦ from_any xs G (λ y m d. f y (suc m.0, omega (arith, m.1), m.2) d) h
]

least_le : (m : ℕ) (ys : List Sketch) (x : Sketch) (k : ℕ) → k < length ys → slice_index_or ys k x ≡ x → has_nonzero_registers x ≡ true → least_lg_k m ys ≤ x.lg_k
least_le m [] x k h e c = absurd (omega arith)
least_le m (y ∷ ys) x zero h e c = omega (arith, cond-true (has_nonzero_registers y) (min y.lg_k (least_lg_k m ys)) (least_lg_k m ys) (ap has_nonzero_registers e ∙ c), ap (λ (z : Sketch). z.lg_k) e)
least_le m (y ∷ ys) x (suc k) h e c = omega (arith, least_le m ys x k (omega arith) e c, lowered_le (least_lg_k m ys) y)

least_bound : (m : ℕ) (ys : List Sketch) → least_lg_k m ys ≤ m
least_bound m [] = omega arith
least_bound m (y ∷ ys) = omega (arith, least_bound m ys, lowered_le (least_lg_k m ys) y)

least_from : (m n : ℕ) (xs : List Sketch) → n ≤ m → ((x : Sketch) → Contains xs x → has_nonzero_registers x ≡ true → n ≤ x.lg_k) → n ≤ least_lg_k m xs
least_from m n [] h f = h
least_from m n (x ∷ xs) h f =
    let rest : n ≤ least_lg_k m xs = least_from m n xs h (λ y c d. f y (suc c.0, omega (arith, c.1), c.2) d) in
    elim (cases_Bool (has_nonzero_registers x)) [
      | inl t ↦ omega (arith, cond-true (has_nonzero_registers x) (min x.lg_k (least_lg_k m xs)) (least_lg_k m xs) t, f x (0, omega arith, refl) t)
      | inr z ↦ omega (arith, cond-false (has_nonzero_registers x) (min x.lg_k (least_lg_k m xs)) (least_lg_k m xs) z)
    ]

pub union_of_same : UnionOfSame
union_of_same m w xs ys same =
    let pairs_same : all_pairs xs ≡ all_pairs ys = same_members (all_pairs xs) (all_pairs ys) (λ q. both_ways (contains (all_pairs xs) q) (contains (all_pairs ys) q)
    (from_pairs xs q _ (λ x c d. let to = same.0 x c in reach_pairs ys x q to.0 to.1 to.2 d))
    (from_pairs ys q _ (λ x c d. let to = same.1 x c in reach_pairs xs x q to.0 to.1 to.2 d))) in
    let any_same : list_any has_nonzero_registers xs ≡ list_any has_nonzero_registers ys = both_ways (list_any has_nonzero_registers xs) (list_any has_nonzero_registers ys)
    (from_any xs _ (λ x c d. let to = same.0 x c in reach_any ys x to.0 to.1 to.2 d))
    (from_any ys _ (λ x c d. let to = same.1 x c in reach_any xs x to.0 to.1 to.2 d)) in
    let one : least_lg_k m xs ≤ least_lg_k m ys = least_from m (least_lg_k m xs) ys (least_bound m xs) (λ x c d. let to = same.1 x c in least_le m xs x to.0 to.1 to.2 d) in
    let two : least_lg_k m ys ≤ least_lg_k m xs = least_from m (least_lg_k m ys) xs (least_bound m ys) (λ x c d. let to = same.0 x c in least_le m ys x to.0 to.1 to.2 d) in
    let least_same : least_lg_k m xs ≡ least_lg_k m ys = omega arith in
    λ i. join_value_of_pairs m w (least_same i) (pairs_same i) (any_same i)

-- ---- some sketches merged first

all_pairs-append : (ys xs : List Sketch) → all_pairs (ys ++ xs) ≡ union (all_pairs ys) (all_pairs xs)
all_pairs-append [] xs = sym (union-empty (all_pairs xs))
all_pairs-append (y ∷ ys) xs = ap (union (pairs_of y)) (all_pairs-append ys xs) ∙ sym (union_assoc (pairs_of y) (all_pairs ys) (all_pairs xs))

any-append : (ys xs : List Sketch) → list_any has_nonzero_registers (ys ++ xs) ≡ (list_any has_nonzero_registers ys || list_any has_nonzero_registers xs)
any-append [] xs = refl
any-append (y ∷ ys) xs = ap (λ b. has_nonzero_registers y || b) (any-append ys xs) ∙ sym (or_assoc (has_nonzero_registers y) (list_any has_nonzero_registers ys) (list_any has_nonzero_registers xs))

least-append : (m : ℕ) (ys xs : List Sketch) → least_lg_k m (ys ++ xs) ≡ min (least_lg_k m ys) (least_lg_k m xs)
least-append m [] xs = omega (arith, least_bound m xs)
least-append m (y ∷ ys) xs = elim (has_nonzero_registers y) as (λ b. cond b (min y.lg_k (least_lg_k m (ys ++ xs))) (least_lg_k m (ys ++ xs)) ≡ min (cond b (min y.lg_k (least_lg_k m ys)) (least_lg_k m ys)) (least_lg_k m xs)) [
  | true ↦ omega (arith, least-append m ys xs)
  | false ↦ least-append m ys xs
]

SoFar-all : (m e : ℕ) (P : Pairs) (any : Bool) (xs : List Sketch) → SoFar m e P any → AllByRecursion IsCanonicalOfPairs xs → SoFar m (least_lg_k e xs) (union P (all_pairs xs)) (any || list_any has_nonzero_registers xs)
SoFar-all m e P any [] h f = rw (union_none P, or-false any) h
SoFar-all m e P any (x ∷ xs) h f =
    rw (← least-lowered e x xs, ← union_assoc P (pairs_of x) (all_pairs xs), ← or_assoc any (has_nonzero_registers x) (list_any has_nonzero_registers xs))
    (SoFar-all m (lowered e x) (union P (pairs_of x)) (any || has_nonzero_registers x) xs (SoFar-more m e P any x h f.0.are) f.1)

-- registers of some pairs are not empty
full_registers : (k : ℕ) (w : HllType) (P : Pairs) → k ≤ 21 → ArePairs P → (P ≡ empty → ⊥) → has_nonzero_registers (record { lg_k = k; width = w; content = registers (fold_to P k) cleared_state }) ≡ true
full_registers k w P small are some = elim (cases_Bool (eqb (len (pairs (fold_to P k))) 0)) [
  | inl t ↦ absurd (some (nothing k (registers (fold_to P k) cleared_state) P small are refl t))
  | inr f ↦ ap not f
]

no_registers_least : (m : ℕ) (xs : List Sketch) → list_any has_nonzero_registers xs ≡ false → least_lg_k m xs ≡ m
no_registers_least m [] h = refl
no_registers_least m (x ∷ xs) h = let parts = or_parts (has_nonzero_registers x) (list_any has_nonzero_registers xs) h in
    cond-false (has_nonzero_registers x) (min x.lg_k (least_lg_k m xs)) (least_lg_k m xs) parts.0 ∙ no_registers_least m xs parts.1

module _ (m : ℕ) (v w : HllType) (a : ℕ) (A : Pairs) (xs : List Sketch) where
  abbrev X : Pairs
  X = all_pairs xs

  abbrev n : ℕ
  n = least_lg_k m xs

  abbrev in_xs : Bool
  in_xs = list_any has_nonzero_registers xs

  -- registers at a first, and then the other sketches
  first_registers : a ≤ 21 → ArePairs A → (A ≡ empty → ⊥) → join_value m w (record { lg_k = a; width = v; content = registers (fold_to A a) cleared_state } ∷ xs) ≡ join_value_of_pairs m w (min a n) (union A X) true
  first_registers small are some =
      let y : Sketch = record { lg_k = a; width = v; content = registers (fold_to A a) cleared_state } in
      let has : has_nonzero_registers y ≡ true = full_registers a v A small are some in
      let e : ℕ = min a n in
      let le : e ≤ a = omega arith in
      let same : fold_to (union (pairs (fold_to A a)) X) e ≡ fold_to (union A X) e =
      fold_to-union (pairs (fold_to A a)) X e ∙ ap (λ F. join F (fold_to X e)) (folds_as a e (registers (fold_to A a) cleared_state) A small le refl) ∙ sym (fold_to-union A X e) in
      (λ i. join_value_of_pairs m w (cond (has i) e n) (union (pairs (fold_to A a)) X) (has i || in_xs))
      ∙ ap (λ R. let x : Sketch = record { lg_k = e; width = w; content = registers R cleared_state } in x) same

  first_settled : m ≤ 21 → ArePairs A → (o : Option ℕ) → stage m 3 (len A) ≡ o → join_value m w (record { lg_k = m; width = v; content = content_for m A o } ∷ xs) ≡ join_value_of_pairs m w n (union A X) in_xs
  first_settled small are (Some p) h = refl
  first_settled small are None h =
      let some : A ≡ empty → ⊥ = λ e. let at : stage m 3 (len A) ≡ Some 3 = ap (λ P. stage m 3 (len P)) e ∙ ap (stage m 3) (len-empty nat_cmp) in cc in
      let y : Sketch = record { lg_k = m; width = v; content = registers (fold_to A m) cleared_state } in
      let has : has_nonzero_registers y ≡ true = full_registers m v A small are some in
      let le : min m n ≡ n = omega (arith, least_bound m xs) in
      let same : fold_to (union (pairs (fold_to A m)) X) n ≡ fold_to (union A X) n =
      fold_to-union (pairs (fold_to A m)) X n ∙ ap (λ F. join F (fold_to X n)) (folds_as m n (registers (fold_to A m) cleared_state) A small (least_bound m xs) refl) ∙ sym (fold_to-union A X n) in
      (λ i. join_value_of_pairs m w (cond (has i) (le i) n) (union (pairs (fold_to A m)) X) (has i || in_xs))
      ∙ ap (λ R. let x : Sketch = record { lg_k = n; width = w; content = registers R cleared_state } in x) same
      ∙ last in_xs refl
    where
      last : (b : Bool) → in_xs ≡ b → join_value_of_pairs m w n (union A X) true ≡ join_value_of_pairs m w n (union A X) b
      last true h' = refl
      last false h' =
          let none : stage m 3 (len (union A X)) ≡ None = stage_none m 3 (len A) (len (union A X)) (len_union_le A X) h in
          let at : n ≡ m = no_registers_least m xs h' in
          (λ i. let x : Sketch = record { lg_k = at i; width = w; content = registers (fold_to (union A X) (at i)) cleared_state } in x)
          ∙ ap (λ o. let x : Sketch = record { lg_k = m; width = w; content = content_for m (union A X) o } in x) (sym none)

pub union_of_union : UnionOfUnion
union_of_union m v w xs ys small f =
    of (least_lg_k m ys) (list_any has_nonzero_registers ys) refl
    (rw (← union-empty (all_pairs ys)) (SoFar-all m m empty false ys (nothing-yet m small) f))
    ∙ sym (λ i. join_value_of_pairs m w (least-append m ys xs i) (all_pairs-append ys xs i) (any-append ys xs i))
  where
    of : (a : ℕ) (any : Bool) → least_lg_k m ys ≡ a → SoFar m a (all_pairs ys) any → join_value m w (join_value_of_pairs m v a (all_pairs ys) any ∷ xs) ≡ join_value_of_pairs m w (min a (least_lg_k m xs)) (union (all_pairs ys) (all_pairs xs)) (any || list_any has_nonzero_registers xs)
    of a true e h = first_registers m v w a (all_pairs ys) xs (omega (arith, h.small, h.below)) h.are (h.some refl)
    of a false e h = first_settled m v w a (all_pairs ys) xs small h.are (stage m 3 (len (all_pairs ys))) refl
        ∙ ap (λ k. join_value_of_pairs m w k (union (all_pairs ys) (all_pairs xs)) (list_any has_nonzero_registers xs)) (let s : least_lg_k m xs ≡ min a (least_lg_k m xs) = omega (arith, h.none refl, least_bound m xs) in s)

-- ---- unions

pub merges_of_same : MergesOfSame
merges_of_same u v xs ys bound one two same =
    one.value ∙ ap (λ m. join_value m Hll8 xs) bound ∙ union_of_same v.lg_max_k Hll8 xs ys same ∙ sym two.value

swapped : (xs ys : List Sketch) (x : Sketch) → Contains (xs ++ ys) x → Contains (ys ++ xs) x
swapped xs ys x h = elim (Contains-append_cases xs ys x h) [ inl l ↦ Contains-append_right ys xs x l | inr r ↦ Contains-append_left ys xs x r ]

front : (xs ys zs : List Sketch) → AllByRecursion IsCanonicalOfPairs (xs ++ zs) → AllByRecursion IsCanonicalOfPairs ys → AllByRecursion IsCanonicalOfPairs (xs ++ ys)
front [] ys zs h k = k
front (x ∷ xs) ys zs h k = (h.0, front xs ys zs h.1 k)

pub merge_of_merge : MergeOfMerge
merge_of_merge u v w xs ys bound inner outer =
    let m : ℕ = u.lg_max_k in
    let y : Sketch = record (gadget_of v) { width = w } in
    let is : y ≡ join_value m w ys =
    ap (λ (x : Sketch). let z : Sketch = record x { width = w } in z) (inner.value ∙ ap (λ k. join_value k Hll8 ys) (sym bound))
    ∙ width-changed m w (least_lg_k m ys) (all_pairs ys) (list_any has_nonzero_registers ys) in
    record {
      small = outer.small;
      merged = front xs ys (y ∷ []) outer.merged inner.merged;
      value = outer.value
          ∙ union_of_same m Hll8 (xs ++ y ∷ []) (y ∷ xs) (swapped xs (y ∷ []), swapped (y ∷ []) xs)
          ∙ ap (λ z. join_value m Hll8 (z ∷ xs)) is
          ∙ union_of_union m w Hll8 xs ys outer.small inner.merged
          ∙ union_of_same m Hll8 (ys ++ xs) (xs ++ ys) (swapped ys xs, swapped xs ys);
      canonical = outer.canonical;
    }
