-- SPDX-License-Identifier: Apache-2.0
-- Coupons that are collected and added to a gadget together.
use Rattle.std.proofs.Common.{◌≡◌, ℕ, zero, suc, map, take, drop, true, false, ◌||◌, nat_eq, eqb, List, [], ◌∷◌, ◌++◌, Option, Some, None, All, length, refl, sym, ap, ◌∙◌, arith, inl, inr}
use Rattle.std.specs.Ordering.{nat_cmp}
use Rattle.std.specs.Cmp.{nat_cmp_total}
use Rattle.std.specs.FinSet.{empty, union, len, len-empty, empty_of_len, contains, contains-union, contains-from_list_nat, contains-empty}
use Rattle.std.proofs.lemmas.Bool.{cases_Bool, eqb-true, true≢false}
use Rattle.std.proofs.lemmas.List.Folds.{list_any-append}
use Rattle.hll_coupons.specs.Pair.{Pairs, IsPair, set_of}
use Rattle.hll_coupons.proofs.Sizes.{inserted}
use Rattle.hll_coupons.proofs.Unions.{same_members, set_of-nil, union_right}
use Rattle.hll_sketch.specs.Collected.{with_coupons}
use Rattle.hll_sketch.specs.Stage.{stage}
use Rattle.hll_sketch.specs.Value.{Sketch, Content, coupons, registers, in_registers, is_empty, pairs_in, IsLegal}
use Rattle.hll_sketch.specs.Adding.{add, content_for, content_with}
use Rattle.hll_sketch.specs.Merging.{merge, merge_all, merge_content}
use Rattle.hll_sketch.specs.Union.{IsGadget}
use Rattle.hll_sketch.specs.Layout.{SketchLayout, sketch_of}
use Rattle.hll_sketch.proofs.Adding.{add_again, merge_of_some}
use Rattle.hll_sketch.proofs.Gadgets.{gadget_with, false_unless}
use Rattle.hll_sketch.proofs.LegalImages.{ArePairs-set_of}
use Rattle.hll_sketch.proofs.Merges.{coupons_added, other_empty}

-- the set of two concatenated lists is the union of their sets
pub set_of-append : (xs ys : List ℕ) → set_of (xs ++ ys) ≡ union (set_of xs) (set_of ys)
set_of-append xs ys = same_members _ _ (λ q.
    contains-from_list_nat (xs ++ ys) q ∙ list_any-append (λ y. nat_eq y q) xs ys
    ∙ (λ i. sym (contains-from_list_nat xs q) i || sym (contains-from_list_nat ys q) i) ∙ sym (contains-union nat_cmp_total (set_of xs) (set_of ys) q))

-- the set of a list with a first number is not empty
pub some_first : (c : ℕ) (cs : List ℕ) → set_of (c ∷ cs) ≡ empty → ⊥
some_first c cs e = true≢false (sym (inserted (set_of cs) c) ∙ ap (λ S. contains S c) e ∙ contains-empty nat_cmp c)

-- a table with more coupons, at least one, is not empty
in_table_some : (k : ℕ) (content : Content) (T : Pairs) → in_registers content ≡ false → (T ≡ empty → ⊥) → in_registers (content_with k content T) ≡ false
    → eqb (len (pairs_in (content_with k content T))) 0 ≡ false
in_table_some k (registers R s) T table some stays = absurd (true≢false table)
in_table_some k (coupons S p) T table some stays = of (stage k p (len (union S T))) stays
  where
    of : (o : Option ℕ) → in_registers (content_for k (union S T) o) ≡ false → eqb (len (pairs_in (content_for k (union S T) o))) 0 ≡ false
    of (Some q) h = false_unless _ (T ≡ empty) (λ e. union_right S T (none e)) some
      where
        none : eqb (len (union S T)) 0 ≡ true → union S T ≡ empty
        none e = empty_of_len (union S T) (eqb-true (len (union S T)) 0 e)
    of None h = absurd (true≢false h)

module _ (m : ℕ) (g : Sketch) (gadget : IsGadget m g) (legal : IsLegal g) (table : in_registers g.content ≡ false) (some : is_empty g ≡ false) where
  -- with more coupons it has some
  stays_some : (W : List ℕ) → All IsPair W → is_empty (with_coupons g W) ≡ false
  stays_some [] pairs = some
  stays_some (c ∷ cs) pairs =
      let T : Pairs = set_of (c ∷ cs) in
      elim (cases_Bool (in_registers (add g T).content)) [
        | inl t ↦ (gadget_with m g T gadget legal (ArePairs-set_of (c ∷ cs) pairs) (some_first c cs)).registers t
        | inr f ↦ in_table_some g.lg_k g.content T table (some_first c cs) f
      ]

  added_after : (W X : List ℕ) → (set_of X ≡ empty → ⊥) → with_coupons g (W ++ X) ≡ add (with_coupons g W) (set_of X)
  added_after [] [] other = absurd (other set_of-nil)
  added_after [] (x ∷ xs) other = refl
  added_after (c ∷ cs) X other = ap (add g) (set_of-append (c ∷ cs) X) ∙ sym (add_again g (set_of (c ∷ cs)) (set_of X))

  -- the coupons of a sketch are added after those that were collected: the sketch is merged
  pub merged_collected : (x : Sketch) (W X : List ℕ) (size : ℕ) → All IsPair W → x.content ≡ coupons (set_of X) size → is_empty x ≡ false
      → with_coupons g (W ++ X) ≡ merge m (with_coupons g W) x
  merged_collected x W X size pairs is other =
      let h : Sketch = with_coupons g W in
      let has : set_of X ≡ empty → ⊥ = λ e. true≢false (sym (ap (λ P. eqb (len P) 0) (ap pairs_in is ∙ e) ∙ ap (λ n. eqb n 0) (len-empty nat_cmp)) ∙ other) in
      added_after W X has
      ∙ coupons_added h x (add h (set_of X)) (set_of X) (other_empty (is_empty h) h.lg_k x.lg_k (stays_some W pairs)) (ap pairs_in is) refl
      ∙ ap (λ c. merge_content m h x c) (sym is)
      ∙ sym (merge_of_some m h x other)

-- ---- coupons, at least one or none

pub some_listed : (W : List ℕ) → (length W ≡ 0 → ⊥) → len (set_of W) ≡ 0 → ⊥
some_listed [] some none = some refl
some_listed (c ∷ cs) some none = some_first c cs (empty_of_len (set_of (c ∷ cs)) none)

pub added_none : (g : Sketch) (W : List ℕ) → length W ≡ 0 → g ≡ with_coupons g W
added_none g [] none = refl
added_none g (c ∷ cs) none = absurd (omega (arith, none))

-- ---- some sketches first, and then the others

pub merged_rest : (m : ℕ) (g : Sketch) (xs : List SketchLayout) (i : ℕ) → merge_all m (merge_all m g (map sketch_of (take i xs))) (map sketch_of (drop i xs)) ≡ merge_all m g (map sketch_of xs)
merged_rest m g xs zero = refl
merged_rest m g [] (suc i) = refl
merged_rest m g (x ∷ xs) (suc i) = merged_rest m (merge m g (sketch_of x)) xs i
