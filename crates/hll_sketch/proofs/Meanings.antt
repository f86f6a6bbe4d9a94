-- SPDX-License-Identifier: Apache-2.0
-- Sketches that stand for pairs: empty ones, with pairs added, with sketches merged.
use Rattle.std.proofs.Common.{◌≡◌, ℕ, ◌≤◌, true, ◌&&◌, nat_eq, eqb, List, Option, Some, None, refl, sym, ap, ◌∙◌, arith, inl, inr}
use Rattle.std.specs.Prelude.{min}
use Rattle.std.specs.Ordering.{nat_cmp}
use Rattle.std.specs.FinSet.{empty, union, len, contains-empty, empty_of_len}
use Rattle.std.proofs.lemmas.Bool.{cases_Bool, cond-true, cond-false, eqb-true, and_parts, true≢false}
use Rattle.hll_coupons.specs.Pair.{Pairs}
use Rattle.hll_coupons.specs.Fold.{fold_to, pairs}
use Rattle.hll_base.specs.Join.{join}
use Rattle.hll_coupons.proofs.Folds.{fold_to-union}
use Rattle.hll_coupons.proofs.Registers.{fold_to-pairs-fold_to, fold_to-pairs}
use Rattle.hll_base.specs.declared.hll_type.HllType.{HllType}
use Rattle.hll_registers.specs.declared.estimate_state.EstimateState.{EstimateState}
use Rattle.hll_sketch.specs.Stage.{stage}
use Rattle.hll_sketch.specs.Value.{Content, coupons, registers, Sketch, pairs_in, pairs_of, is_empty, empty_sketch, ArePairs, IsLegal}
use Rattle.hll_sketch.specs.Meaning.{Means}
use Rattle.hll_sketch.specs.Folding.{folded, folded_content}
use Rattle.hll_sketch.specs.Adding.{content_for, content_with, add}
use Rattle.hll_sketch.specs.Merging.{merge, merge_coupons, merge_content, merge_registers}
use Rattle.hll_sketch.proofs.Adding.{merge_of_empty, merge_of_some}
use Rattle.hll_sketch.proofs.Gadgets.{fold_none}
use Rattle.hll_coupons.proofs.Unions.{union-empty, union_none}
use Rattle.hll_sketch.proofs.LegalSketches.{ArePairs-union, ArePairs-pairs}

pub folds_as : (k e : ℕ) (c : Content) (P : Pairs) → k ≤ 21 → e ≤ k → Means k c P → fold_to (pairs_in c) e ≡ fold_to P e
folds_as k e (coupons S p) P small le m = ap (λ S. fold_to S e) m
folds_as k e (registers R s) P small le m = ap (λ R. fold_to (pairs R) e) m ∙ fold_to-pairs-fold_to P k e le small

pub Means-content_for : (k : ℕ) (S P : Pairs) (o : Option ℕ) → S ≡ P → Means k (content_for k S o) P
Means-content_for k S P (Some q) e = e
Means-content_for k S P None e = ap (λ S. fold_to S k) e

pub Means-content_with : (k : ℕ) (c : Content) (P T : Pairs) → Means k c P → Means k (content_with k c T) (union P T)
Means-content_with k (coupons S p) P T m = Means-content_for k (union S T) (union P T) (stage k p (len (union S T))) (ap (λ S. union S T) m)
Means-content_with k (registers R s) P T m = ap (λ R. join R (fold_to T k)) m ∙ sym (fold_to-union P T k)

pub ArePairs-empty : ArePairs empty
ArePairs-empty c h = absurd (true≢false (sym h ∙ contains-empty nat_cmp c))

-- an empty sketch stands for no pairs
pub nothing : (k : ℕ) (c : Content) (P : Pairs) → k ≤ 21 → ArePairs P → Means k c P → eqb (len (pairs_in c)) 0 ≡ true → P ≡ empty
nothing k (coupons S p) P small are m e = sym m ∙ empty_of_len S (eqb-true (len S) 0 e)
nothing k (registers R s) P small are m e = fold_none k P are (ap (λ R. eqb (len (pairs R)) 0) (sym m) ∙ e)

-- ---- sketches

-- a sketch that stands for these pairs
pub record MeansPairs (x : Sketch) (P : Pairs) : Type 0 where
  pub small : x.lg_k ≤ 21
  pub are : ArePairs P
  pub meaning : Means x.lg_k x.content P

pub MeansPairs-add : (x : Sketch) (P T : Pairs) → MeansPairs x P → ArePairs T → MeansPairs (add x T) (union P T)
MeansPairs-add x P T g t = record { small = g.small; are = ArePairs-union P T g.are t; meaning = Means-content_with x.lg_k x.content P T g.meaning }

MeansPairs-coupons : (g x : Sketch) (S : Pairs) (p : ℕ) (P Q : Pairs) → x.content ≡ coupons S p → S ≡ Q → MeansPairs g P → ArePairs Q → MeansPairs (merge_coupons g x) (union P Q)
MeansPairs-coupons g x S p P Q is m good are = elim (cases_Bool (is_empty g && nat_eq g.lg_k x.lg_k)) [
  | inl whole ↦
      let none : P ≡ empty = nothing g.lg_k g.content P good.small good.are good.meaning (and_parts (is_empty g) _ whole).0 in
      let same : S ≡ union P Q = m ∙ sym (union-empty Q) ∙ ap (λ T. union T Q) (sym none) in
      rw (cond-true (is_empty g && nat_eq g.lg_k x.lg_k) (record g { content = x.content }) (add g (pairs_of x)) whole)
      (record { small = good.small; are = ArePairs-union P Q good.are are; meaning = rw is same })
  | inr one_by_one ↦
      let there : pairs_of x ≡ Q = ap pairs_in is ∙ m in
      rw (cond-false (is_empty g && nat_eq g.lg_k x.lg_k) (record g { content = x.content }) (add g (pairs_of x)) one_by_one)
      (rw there (MeansPairs-add g P Q good are))
]

MeansPairs-registers : (m : ℕ) (g : Sketch) (l : ℕ) (R : List ℕ) (s : EstimateState) (P Q : Pairs) → l ≤ 21 → R ≡ fold_to Q l → MeansPairs g P → ArePairs Q → MeansPairs (merge_registers m g l R s) (union P Q)
MeansPairs-registers m g l R s P Q small is good are =
    let e : ℕ = min g.lg_k l in
    record {
      small = let b : e ≤ 21 = omega (arith, small) in b;
      are = ArePairs-union P Q good.are are;
      meaning = fold_to-union (pairs_of g) (pairs R) e
          ∙ (λ i. join (folds_as g.lg_k e g.content P good.small (omega arith) good.meaning i) (folds_as l e (registers R s) Q small (omega arith) is i))
          ∙ sym (fold_to-union P Q e);
    }

pub MeansPairs-merge : (m : ℕ) (g x : Sketch) (P Q : Pairs) → MeansPairs g P → MeansPairs x Q → MeansPairs (merge m g x) (union P Q)
MeansPairs-merge m g x P Q good other = elim (cases_Bool (is_empty x)) [
  | inl e ↦
      let none : Q ≡ empty = nothing x.lg_k x.content Q other.small other.are other.meaning e in
      let same : union P Q ≡ P = ap (union P) none ∙ union_none P in
      rw (same, merge_of_empty m g x e) good
  | inr e ↦ rw (merge_of_some m g x e) (of x.lg_k x.width x.content other)
]
  where
    of : (l : ℕ) (w : HllType) (c : Content) → let x : Sketch = record { lg_k = l; width = w; content = c } in MeansPairs x Q → MeansPairs (merge_content m g x c) (union P Q)
    of l w (coupons S p) o = MeansPairs-coupons g (record { lg_k = l; width = w; content = coupons S p }) S p P Q refl o.meaning good o.are
    of l w (registers R s) o = MeansPairs-registers m g l R s P Q o.small o.meaning good o.are

pub MeansPairs-width : (x : Sketch) (w : HllType) (P : Pairs) → MeansPairs x P → MeansPairs (record x { width = w }) P
MeansPairs-width x w P g = record { small = g.small; are = g.are; meaning = g.meaning }

pub MeansPairs-empty : (k : ℕ) (w : HllType) → k ≤ 21 → MeansPairs (empty_sketch k w) empty
MeansPairs-empty k w h = record { small = h; are = ArePairs-empty; meaning = refl }

pub MeansPairs-legal : (x : Sketch) (l : ℕ) (w : HllType) (c : Content) → let x : Sketch = record { lg_k = l; width = w; content = c } in IsLegal x → MeansPairs x (pairs_of x)
MeansPairs-legal x l w (coupons S p) h = record { small = h.lg_k.high; are = h.content.0; meaning = refl }
MeansPairs-legal x l w (registers R s) h = record {
  small = h.lg_k.high;
  are = ArePairs-pairs l R h.lg_k.high h.content.0;
  meaning = sym (fold_to-pairs R l h.lg_k.high h.content.0.size);
}

pub MeansPairs-folded : (x : Sketch) (e : ℕ) (P : Pairs) → e ≤ x.lg_k → MeansPairs x P → MeansPairs (folded x e) P
MeansPairs-folded x e P low g = record { small = omega (arith, g.small, low); are = g.are; meaning = of x.content g.meaning }
  where
    of : (c : Content) → Means x.lg_k c P → Means e (folded_content x.lg_k e c) P
    of (coupons S p) m = Means-content_for e S P (stage e 3 (len S)) m
    of (registers R s) m = folds_as x.lg_k e (registers R s) P g.small low m
