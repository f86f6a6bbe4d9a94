-- SPDX-License-Identifier: Apache-2.0
-- Merges into a gadget, in the terms of the definitions.
use Rattle.std.proofs.Common.{◌≡◌, ◌+◌, ℕ, ◌-◌, ◌^◌, ◌≤◌, ◌<◌, Bool, true, false, cond, ◌&&◌, nat_eq, leb, List, [], ◌∷◌, ◌++◌, Option, Some, None, length, refl, sym, ap, subst, ◌∙◌, arith, inl, inr, map, take, get_or, zero, suc}
use Rattle.std.specs.Prelude.{min}
use Rattle.std.specs.FinSet.{empty, union, len, empty_of_len, len-empty}
use Rattle.std.specs.Ordering.{nat_cmp}
use Rattle.std.proofs.lemmas.Bool.{cases_Bool, cond-true, cond-false, and_parts, eqb-true, eq-eqb, ne_eqb, le-leb, true≢false}
use Rattle.std.specs.Option.{unwrap_or}
use Rattle.hll_coupons.specs.AuxMap.{ExceptionMap}
use Rattle.hll_coupons.specs.Pair.{Pairs, set_of}
use Rattle.hll_coupons.specs.Fold.{fold_to, pairs}
use Rattle.hll_base.specs.Join.{join}
use Rattle.hll_coupons.proofs.Folds.{fold_to-union}
use Rattle.hll_coupons.proofs.Registers.{fold_to-pairs}
use Rattle.hll_base.specs.declared.hll_type.HllType.{HllType}
use Rattle.hll_coupons.specs.Table.{coupons_of}
use Rattle.hll_base.specs.declared.hll_type.HllType.TheVariants.{Hll4, Hll6, Hll8}
use Rattle.hll_registers.specs.declared.estimate_state.EstimateState.{EstimateState}
use Rattle.hll_registers.specs.State.{cleared_state}
use Rattle.hll_registers.specs.Store.{Stored, merge_with}
use Rattle.hll_sketch.specs.Stage.{can_hold, stage}
use Rattle.hll_sketch.specs.Value.{Sketch, Content, coupons, registers, pairs_in, pairs_of, is_empty, in_registers, IsLgK}
use Rattle.hll_sketch.specs.Adding.{add}
use Rattle.hll_sketch.specs.Layout.{Layout, list, set, array, SketchLayout, content_in, count_in, width_of, sketch_of}
use Rattle.hll_sketch.specs.Union.{IsGadget, coupons_kept, can_hold_all, ContentNeedsMemory}
use Rattle.hll_sketch.specs.Joined.{least_lg_k}
use Rattle.hll_sketch.specs.Laws.{add_in_turn}
use Rattle.hll_sketch.specs.Merging.{merge, merge_all, merge_content, merge_coupons, max_registers, merge_registers, state_after_merge}
use Rattle.hll_sketch.proofs.Adding.{add_each, least-merge}
use Rattle.hll_coupons.proofs.Collecting.{len-union_none}
use Rattle.hll_sketch.proofs.Gadgets.{false_unless}
use Rattle.hll_coupons.proofs.Unions.{set_of-nil, union-empty}
use Rattle.hll_sketch.proofs.LegalSketches.{found_in_range}

-- the maximum is taken in place
pub maxed_in_place : (g : Sketch) (x : Stored) (k : ℕ) (R : List ℕ) → g.content ≡ registers x.registers x.state → x.lg_k ≡ g.lg_k → g.lg_k ≤ 21 → length x.registers ≡ 2 ^ x.lg_k → x.lg_k ≤ k →
    record g { content = registers (join x.registers (fold_to (pairs R) x.lg_k)) cleared_state } ≡ max_registers g k R cleared_state
maxed_in_place g x k R is same small size below =
    let least : x.lg_k ≡ min g.lg_k k = omega (arith, same) in
    let P : Pairs = pairs_of g in
    let own : P ≡ pairs x.registers = ap pairs_in is in
    let all : join x.registers (fold_to (pairs R) x.lg_k) ≡ fold_to (union P (pairs R)) x.lg_k =
    ap (λ Q. join Q (fold_to (pairs R) x.lg_k)) (sym (fold_to-pairs x.registers x.lg_k (omega (arith, same)) size))
    ∙ sym (fold_to-union (pairs x.registers) (pairs R) x.lg_k) ∙ ap (λ S. fold_to (union S (pairs R)) x.lg_k) (sym own) in
    λ i. record g {
      lg_k = (sym same ∙ least) i;
      content = registers ((all ∙ ap (fold_to (union P (pairs R))) least) i) cleared_state;
    }

-- the maximum with the fold of the gadget is taken
maxed_aside : (g : Sketch) (e k : ℕ) (R : List ℕ) (t : EstimateState) → e ≡ min g.lg_k k →
    record g { lg_k = e; content = registers (join (fold_to (pairs_of g) e) (fold_to (pairs R) e)) t } ≡ max_registers g k R t
maxed_aside g e k R t least = λ i. record g {
  lg_k = least i;
  content = registers ((sym (fold_to-union (pairs_of g) (pairs R) e) ∙ ap (fold_to (union (pairs_of g) (pairs R))) least) i) t;
}

-- registers are copied by an empty gadget
pub merged_whole : (bound : ℕ) (g : Sketch) (k : ℕ) (R : List ℕ) (s : EstimateState) → is_empty g ≡ true → k ≤ bound → g.lg_k ≡ bound → k ≤ 21 → length R ≡ 2 ^ k →
    record g { lg_k = k; content = registers R s } ≡ merge_registers bound g k R s
merged_whole bound g k R s none below at small size =
    let least : k ≡ min g.lg_k k = omega (arith, at) in
    let bare : union (pairs_of g) (pairs R) ≡ pairs R = ap (λ P. union P (pairs R)) (empty_of_len (pairs_of g) (eqb-true (len (pairs_of g)) 0 none)) ∙ union-empty (pairs R) in
    let state : s ≡ state_after_merge bound g k s = sym (ap (λ b. cond (b && leb k bound) s cleared_state) none ∙ cond-true (leb k bound) s cleared_state (le-leb k bound below)) in
    λ i. record g {
      lg_k = least i;
      content = registers ((sym (fold_to-pairs R k small size) ∙ ap (λ P. fold_to P k) (sym bare) ∙ ap (fold_to (union (pairs_of g) (pairs R))) least) i) (state i);
    }

-- coupons are added, if the gadget has some or has another lg_k
pub coupons_added : (g x y : Sketch) (T : Pairs) → (is_empty g && nat_eq g.lg_k x.lg_k) ≡ false → pairs_of x ≡ T → y ≡ add g T → y ≡ merge_coupons g x
coupons_added g x y T other is e =
    e ∙ ap (add g) (sym is) ∙ sym (cond-false (is_empty g && nat_eq g.lg_k x.lg_k) (record g { content = x.content }) (add g (pairs_of x)) other)

-- adding coupons in turn is adding them at once, if there is at least one
pub in_turn : (g : Sketch) (order : List ℕ) → (len (set_of order) ≡ 0 → ⊥) → add_in_turn g order ≡ add g (set_of order)
in_turn g [] some = absurd (some (ap len set_of-nil ∙ len-empty nat_cmp))
in_turn g (c ∷ cs) some = add_each g c cs

-- ---- room

-- a size that is kept for a count of coupons holds them
pub stays_held : (k p q n : ℕ) → stage k p n ≡ Some q → can_hold q n ≡ true
stays_held k p q n e = elim (cases_Bool (leb p 3 && can_hold 3 n)) [
  | inl t ↦
      let at : Some 3 ≡ Some q = sym (cond-true (leb p 3 && can_hold 3 n) (Some 3) _ t) ∙ e in
      let same : 3 ≡ q = cc in
      ap (λ m. can_hold m n) (sym same) ∙ (and_parts (leb p 3) (can_hold 3 n) t).1
  | inr z ↦
      let r = found_in_range (λ size. leb p size && can_hold size n) 5 (k - 7) q (sym (cond-false (leb p 3 && can_hold 3 n) (Some 3) _ z) ∙ e) in
      (and_parts (leb p q) (can_hold q n) r.2).1
]

-- ---- coupons in turn, where there is room for all

pub added_more : (x : Sketch) (ys : List ℕ) (c : ℕ) → add_in_turn x (ys ++ c ∷ []) ≡ add (add_in_turn x ys) (set_of (c ∷ []))
added_more x [] c = refl
added_more x (y ∷ ys) c = added_more (add x (set_of (y ∷ []))) ys c

-- ---- what the code makes

pub state_gone : (bound : ℕ) (g : Sketch) (k : ℕ) (s : EstimateState) → is_empty g ≡ false → cleared_state ≡ state_after_merge bound g k s
state_gone bound g k s some = sym (ap (λ b. cond (b && leb k bound) s cleared_state) some)

pub max_aside_as : (x y : SketchLayout) (a b source : Stored) (l : ℕ) → x ≡ y → width_of y.layout ≡ Hll8 → l ≡ min x.lg_k source.lg_k →
    a ≡ record { lg_k = l; registers = fold_to (pairs_in (content_in x.layout)) l; state = cleared_state } → b ≡ merge_with a source.registers →
    sketch_of (record { lg_k = l; layout = array Hll8 b None }) ≡ max_registers (sketch_of y) source.lg_k source.registers cleared_state
max_aside_as x y a b source l is width least made merged =
    let g : Sketch = sketch_of y in
    let folded : a.registers ≡ fold_to (pairs_of g) l = ap (λ (z : Stored). z.registers) made ∙ ap (λ (z : SketchLayout). fold_to (pairs_in (content_in z.layout)) l) is in
    let all : b.registers ≡ join (fold_to (pairs_of g) l) (fold_to (pairs source.registers) l) =
    ap (λ (z : Stored). z.registers) merged ∙ (λ i. join (folded i) (fold_to (pairs source.registers) (made i).lg_k)) in
    (λ i. let z : Sketch = record { lg_k = l; width = sym width i; content = registers (all i) (merged i).state } in z)
    ∙ maxed_aside g l source.lg_k source.registers cleared_state (least ∙ ap (λ (z : SketchLayout). min z.lg_k source.lg_k) is)

pub max_in_place_as : (k : ℕ) (y : SketchLayout) (a b source : Stored) → record { lg_k = k; layout = array Hll8 a None } ≡ y → IsLgK k →
    a.lg_k ≡ k → length a.registers ≡ 2 ^ a.lg_k → b ≡ merge_with a source.registers → a.lg_k ≤ source.lg_k →
    sketch_of (record { lg_k = k; layout = array Hll8 b None }) ≡ max_registers (sketch_of y) source.lg_k source.registers cleared_state
max_in_place_as k y a b source is lg_k same size merged below =
    let x : SketchLayout = record { lg_k = k; layout = array Hll8 a None } in
    (λ i. let z : Sketch = record { lg_k = k; width = Hll8; content = registers (merged i).registers (merged i).state } in z)
    ∙ maxed_in_place (sketch_of x) a source.lg_k source.registers refl same lg_k.high size below
    ∙ ap (λ z. max_registers (sketch_of z) source.lg_k source.registers cleared_state) is

pub whole_as : (bound l : ℕ) (y : SketchLayout) (a source : Stored) → is_empty (sketch_of y) ≡ true → IsGadget bound (sketch_of y) → a ≡ source → l ≡ a.lg_k → source.lg_k ≤ bound →
    source.lg_k ≤ 21 → length source.registers ≡ 2 ^ source.lg_k →
    sketch_of (record { lg_k = l; layout = array Hll8 a None }) ≡ merge_registers bound (sketch_of y) source.lg_k source.registers source.state
whole_as bound l y a source none gadget copied same below small size =
    let g : Sketch = sketch_of y in
    let bare : in_registers g.content ≡ false = false_unless (in_registers g.content) (is_empty g ≡ false) gadget.registers (λ h. true≢false (sym none ∙ h)) in
    (λ i. let z : Sketch = record { lg_k = (same ∙ ap (λ (s : Stored). s.lg_k) copied) i; width = sym gadget.width i; content = registers (copied i).registers (copied i).state } in z)
    ∙ merged_whole bound g source.lg_k source.registers source.state none below (gadget.coupons bare) small size

-- ---- what needs an allocation

pub needs_whole : (y : SketchLayout) (k : ℕ) (c : Content) (T : Pairs) (q : ℕ) → c ≡ coupons T q → is_empty (sketch_of y) ≡ true → y.lg_k ≡ k →
    (in_registers (content_in y.layout) ≡ true → is_empty (sketch_of y) ≡ false) → ContentNeedsMemory (sketch_of y) (content_in y.layout) k c
needs_whole y k c T q is none same filled = rw is (of (content_in y.layout) (λ h. true≢false (sym none ∙ filled h)))
  where
    of : (d : Content) → (in_registers d ≡ true → ⊥) → ContentNeedsMemory (sketch_of y) d k (coupons T q)
    of (coupons S p) bare = inl (ap (λ b. b && nat_eq y.lg_k k) none ∙ eq-eqb y.lg_k k same)
    of (registers R s) bare = absurd (bare refl)

pub needs_larger : (y : SketchLayout) (k : ℕ) (c : Content) (T : Pairs) (q : ℕ) → c ≡ coupons T q → width_of y.layout ≡ Hll8 → can_hold_all y.layout T ≡ false →
    ContentNeedsMemory (sketch_of y) (content_in y.layout) k c
needs_larger y k c T q is width room = rw is (of y.layout width room)
  where
    of : (l : Layout) → width_of l ≡ Hll8 → can_hold_all l T ≡ false → ContentNeedsMemory (sketch_of y) (content_in l) k (coupons T q)
    of (list w t) width room = inr (λ e. true≢false (sym (stays_held y.lg_k t.lg_size t.lg_size _ e) ∙ room))
    of (set w t) width room = inr (λ e. true≢false (sym (stays_held y.lg_k t.lg_size t.lg_size _ e) ∙ room))
    of (array Hll4 x e) width room = absurd (cc)
    of (array Hll6 x e) width room = absurd (cc)
    of (array Hll8 x e) width room = absurd (cc)

-- coupons added in turn are merged
pub coupons_merged : (g x y : Sketch) (order : List ℕ) (q : ℕ) → (is_empty g && nat_eq g.lg_k x.lg_k) ≡ false → x.content ≡ coupons (set_of order) q → is_empty x ≡ false →
    y ≡ add_in_turn g order → y ≡ merge_coupons g x
coupons_merged g x y order q other is some e =
    let here : pairs_of x ≡ set_of order = ap pairs_in is in
    coupons_added g x y (set_of order) other here
    (e ∙ in_turn g order (λ none. true≢false (sym (eq-eqb (len (pairs_of x)) 0 (ap len here ∙ none)) ∙ some)))

pub other_size : (b : Bool) (j k : ℕ) → (j ≡ k → ⊥) → (b && nat_eq j k) ≡ false
other_size true j k other = ne_eqb j k other
other_size false j k other = refl

pub other_empty : (b : Bool) (j k : ℕ) → b ≡ false → (b && nat_eq j k) ≡ false
other_empty b j k e = ap (λ a. a && nat_eq j k) e

-- ---- registers of a sketch

pub merged_as : (bound k : ℕ) (g : Sketch) (y : SketchLayout) (w : HllType) (a : Stored) (o : Option ExceptionMap) → record { lg_k = k; layout = array w a o } ≡ y → a.lg_k ≡ k →
    merge_registers bound g a.lg_k a.registers a.state ≡ merge_content bound g (sketch_of y) (content_in y.layout)
merged_as bound k g y w a o is same = ap (λ j. merge_registers bound g j a.registers a.state) same ∙ ap (λ z. merge_content bound g (sketch_of z) (content_in z.layout)) is

pub needed_as : (k : ℕ) (g : Sketch) (c : Content) (y : SketchLayout) (w : HllType) (a : Stored) (o : Option ExceptionMap) → record { lg_k = k; layout = array w a o } ≡ y → a.lg_k ≡ k →
    ContentNeedsMemory g c a.lg_k (registers a.registers a.state) → ContentNeedsMemory g c y.lg_k (content_in y.layout)
needed_as k g c y w a o is same needs = subst (λ z. ContentNeedsMemory g c z.lg_k (content_in z.layout)) is (subst (λ j. ContentNeedsMemory g c j (registers a.registers a.state)) same needs)

-- ---- how many coupons a table has

pub kept_count : (l : Layout) → unwrap_or (count_in (content_in l)) 0 ≡ len (union (coupons_kept l) empty)
kept_count (list w t) = sym (len-union_none (coupons_of t))
kept_count (set w t) = sym (len-union_none (coupons_of t))
kept_count (array w x e) = sym (len-union_none empty ∙ len-empty nat_cmp)

-- ---- sketches in turn

merged_next : (m : ℕ) (g : Sketch) (xs : List SketchLayout) (i : ℕ) (d : SketchLayout) → i < length xs →
    merge m (merge_all m g (map sketch_of (take i xs))) (sketch_of (get_or xs i d)) ≡ merge_all m g (map sketch_of (take (suc i) xs))
merged_next m g [] i d l = absurd (omega (arith, l))
merged_next m g (x ∷ xs) zero d l = refl
merged_next m g (x ∷ xs) (suc i) d l = merged_next m (merge m g (sketch_of x)) xs i d (omega (arith, l))

-- one more sketch, after others
pub merged_more : (m : ℕ) (g : Sketch) (xs : List SketchLayout) (i : ℕ) (d : SketchLayout) → i < length xs →
    merge m (merge_all m g (map sketch_of (take i xs))) (sketch_of (get_or xs i d)) ≡ merge_all m g (map sketch_of (take (i + 1) xs))
merged_more m g xs i d l = merged_next m g xs i d l ∙ ap (λ n. merge_all m g (map sketch_of (take n xs))) (let next : suc i ≡ i + 1 = omega arith in next)

pub lg_k-merge_all : (m : ℕ) (g : Sketch) (xs : List SketchLayout) → (merge_all m g (map sketch_of xs)).lg_k ≡ least_lg_k g.lg_k (map sketch_of xs)
lg_k-merge_all m g [] = refl
lg_k-merge_all m g (x ∷ xs) = lg_k-merge_all m (merge m g (sketch_of x)) xs ∙ least-merge m g (sketch_of x) (map sketch_of xs)
