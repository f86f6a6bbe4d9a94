-- SPDX-License-Identifier: Apache-2.0
-- Sketches that stay canonical.
use Rattle.std.proofs.Common.{◌≡◌, ℕ, ◌≤◌, Bool, true, false, cond, nat_eq, eqb, List, [], ◌∷◌, Some, None, refl, sym, ap, subst, inl, inr}
use Rattle.std.specs.FinSet.{len}
use Rattle.std.proofs.lemmas.Bool.{cases_Bool, eqb-true}
use Rattle.std.specs.Cmp.Lexicographic.{pointwise}
use Rattle.hll_base.specs.Join.{join}
use Rattle.hll_coupons.specs.Fold.{fold_to}
use Rattle.hll_coupons.specs.Pair.{Pairs, set_of}
use Rattle.hll_registers.proofs.States.{same_decides}
use Rattle.hll_registers.specs.State.{cleared_state}
use Rattle.hll_sketch.specs.Adding.{add, content_for, content_with}
use Rattle.hll_sketch.specs.Canonical.{IsCanonicalContent, IsCanonicalClearedContent, IsCanonical}
use Rattle.hll_sketch.specs.EstimatorFields.{SetsFields, SetsFieldsIn, FillsFields, filled, stays, cleared_content}
use Rattle.hll_sketch.specs.Folding.{folded, folded_content}
use Rattle.hll_sketch.specs.Laws.{add_in_turn}
use Rattle.hll_sketch.specs.Stage.{stage}
use Rattle.hll_sketch.specs.Value.{Sketch, Content, coupons, registers, IsLegalContent}
use Rattle.hll_sketch.proofs.Folds.{folded_at_own}
use Rattle.hll_sketch.proofs.Joined.{IsCanonicalCleared-content_with}
use Rattle.hll_images.specs.Canonical.{CallsKeepCanonical}

from_cleared : (k : ℕ) (c : Content) → IsCanonicalClearedContent k c → IsCanonicalContent k c
from_cleared k (coupons S size) is = is
from_cleared k (registers R s) is = inl is

-- ---- coupons are added

with_canonical : (k : ℕ) (c : Content) (T : Pairs) → IsCanonicalContent k c → IsCanonicalContent k (content_with k c T)
with_canonical k (coupons S size) T is = from_cleared k (content_with k (coupons S size) T) (IsCanonicalCleared-content_with k (coupons S size) T is)
with_canonical k (registers R s) T is = of (join R (fold_to T k)) (pointwise nat_eq R (join R (fold_to T k))) refl
  where
    of : (Q : List ℕ) (b : Bool) → pointwise nat_eq R Q ≡ b → IsCanonicalContent k (registers Q (cond b s cleared_state))
    of Q true e = subst (λ P. IsCanonicalContent k (registers P s)) ((same_decides R Q).0 e) is
    of Q false e = inl refl

added_canonical : (x : Sketch) (cs : List ℕ) → IsCanonical x → IsCanonical (add_in_turn x cs)
added_canonical x [] is = is
added_canonical x (c ∷ cs) is = added_canonical (add x (set_of (c ∷ []))) cs (with_canonical x.lg_k x.content (set_of (c ∷ [])) is)

-- ---- a fold

fold_canonical : (k e : ℕ) (c : Content) → k ≤ 21 → IsLegalContent k c → IsCanonicalContent k c → IsCanonicalContent e (folded_content k e c)
fold_canonical k e (coupons S size) small legal is =
    elim (stage e 3 (len S)) as (λ o. stage e 3 (len S) ≡ o → IsCanonicalContent e (content_for e S o)) [ Some q ↦ λ h. h | None ↦ λ _. inl refl ] refl
fold_canonical k e (registers R s) small legal is = elim (cases_Bool (eqb e k)) [
  | inl own ↦
      let same : e ≡ k = eqb-true e k own in
      subst (IsCanonicalContent e) (folded_at_own k e (registers R s) same small legal refl) (subst (λ d. IsCanonicalContent d (registers R s)) (sym same) is)
  | inr other ↦ inl (ap (λ b. cond b s cleared_state) other)
]

-- ---- estimator fields

sets_canonical : (k : ℕ) (c d : Content) → IsCanonicalContent k c → SetsFieldsIn c d → IsCanonicalContent k d
sets_canonical k (coupons S size) d is sets = subst (IsCanonicalContent k) (sym sets) is
sets_canonical k (registers R s) d is sets = subst (IsCanonicalContent k) (sym sets.2) (inr sets.1)

set_canonical : (x y : Sketch) → IsCanonical x → SetsFields x y → IsCanonical y
set_canonical x y is sets = subst (λ k. IsCanonicalContent k y.content) (sym sets.lg_k) (sets_canonical x.lg_k x.content y.content is sets.content)

filled_canonical : (x y : Sketch) → IsCanonical x → FillsFields x y → IsCanonical y
filled_canonical x y is (filled none sets) = set_canonical x y is sets
filled_canonical x y is (stays some same) = subst IsCanonical (sym same) is

cleared_canonical : (k : ℕ) (c : Content) → IsCanonicalContent k c → IsCanonicalContent k (cleared_content c)
cleared_canonical k (coupons S size) is = is
cleared_canonical k (registers R s) is = inl refl

pub calls_keep_canonical : CallsKeepCanonical
calls_keep_canonical = record {
  adding = λ x y cs is fills. filled_canonical (add_in_turn x cs) y (added_canonical x cs is) fills;
  folding = λ x y e legal is fills. filled_canonical (folded x e) y (fold_canonical x.lg_k e x.content legal.lg_k.high legal.content is) fills;
  converting = λ x y width is fills. filled_canonical (record x { width = width }) y is fills;
  setting = λ x y is sets. set_canonical x y is sets;
  clearing = λ x is. cleared_canonical x.lg_k x.content is;
}
