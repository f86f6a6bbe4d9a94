-- SPDX-License-Identifier: Apache-2.0
-- Plans that differ in the order, repetition and grouping of children give equal sketches.
use Rattle.std.proofs.Common.{◌≡◌, ℕ, zero, suc, ◌<◌, List, [], ◌∷◌, ◌++◌, length, refl, sym, ap, ◌∙◌, arith, inl, inr}
use Rattle.std.specs.List.{slice_index_or, Contains}
use Rattle.hll_coupons.specs.Pair.{set_of}
use Rattle.hll_base.specs.declared.hll_type.HllType.{HllType}
use Rattle.hll_sketch.specs.Value.{Sketch}
use Rattle.hll_sketch.specs.Adding.{add}
use Rattle.hll_sketch.specs.Merging.{merge_all, empty_union}
use Rattle.hll_merge.specs.Plan.{Plan, Plans, union_plan, no_plans, more_plans, outcome, outcomes, Leaves, LeavesOfEach}
use Rattle.hll_sketch.specs.Canonical.{IsCanonicalCleared}
use Rattle.hll_sketch.specs.Joined.{join_value}
use Rattle.hll_sketch.specs.Folding.{folded}
use Rattle.hll_merge.specs.Rearrangement.{IsChild, both_plans, IsRearrangement, AreRearrangements, reordered, grouped, same, stored, flipped, chained, below_coupon, below_fold, below_union, none, more, RearrangedPlansAgree}
use Rattle.hll_sketch.proofs.Joined.{merge_at_width}
use Rattle.hll_sketch.proofs.Regrouping.{union_of_same, union_of_union}
use Rattle.hll_merge.proofs.CanonicalPlans.{fits}

-- ---- children and their outcomes

-- a child with this outcome
record ChildOf (x : Sketch) (ts : Plans) : Type 0 where
  child : Plan
  there : IsChild child ts
  is : outcome child ≡ x

child_of : (ts : Plans) (x : Sketch) (i : ℕ) → i < length (outcomes ts) → slice_index_or (outcomes ts) i x ≡ x → ChildOf x ts
child_of no_plans x i h e = absurd (omega arith)
child_of (more_plans t ts) x zero h e = record { child = t; there = inl refl; is = e }
child_of (more_plans t ts) x (suc i) h e = let c : ChildOf x ts = child_of ts x i (omega arith) e in record { child = c.child; there = inr c.there; is = c.is }

has_outcome : (ts : Plans) (t : Plan) (x : Sketch) → IsChild t ts → outcome t ≡ x → Contains (outcomes ts) x
has_outcome no_plans t x h e = absurd h
has_outcome (more_plans u ts) t x (inl h) e = (0, omega arith, ap outcome (sym h) ∙ e)
has_outcome (more_plans u ts) t x (inr h) e = let c = has_outcome ts t x h e in (suc c.0, omega (arith, c.1), c.2)

members : (ts us : Plans) → ((t : Plan) → IsChild t ts → IsChild t us) → (x : Sketch) → Contains (outcomes ts) x → Contains (outcomes us) x
members ts us to x c = let h : ChildOf x ts = child_of ts x c.0 c.1 c.2 in has_outcome us h.child x (to h.child h.there) h.is

outcomes-both : (ts us : Plans) → outcomes (both_plans ts us) ≡ outcomes ts ++ outcomes us
outcomes-both no_plans us = refl
outcomes-both (more_plans t ts) us = ap (λ xs. outcome t ∷ xs) (outcomes-both ts us)

-- the union of the children
union_is : (m : ℕ) (w : HllType) (ts : Plans) → Leaves IsCanonicalCleared (union_plan m w ts) → outcome (union_plan m w ts) ≡ join_value m w (outcomes ts)
union_is m w ts h = merge_at_width m w (outcomes ts) h.0.high (fits ts h.1)

merged_as : (m : ℕ) (w : HllType) (xs ys : List Sketch) → xs ≡ ys → record (merge_all m (empty_union m) xs) { width = w } ≡ record (merge_all m (empty_union m) ys) { width = w }
merged_as m w xs ys e = ap (λ zs. let y : Sketch = record (merge_all m (empty_union m) zs) { width = w } in y) e

-- ---- the law

mutual
  agree : {t u : Plan} → IsRearrangement t u → Leaves IsCanonicalCleared t → Leaves IsCanonicalCleared u → outcome t ≡ outcome u
  agree (reordered {m} {w} {ts} {us} s) h k =
      union_is m w ts h ∙ union_of_same m w (outcomes ts) (outcomes us) (members ts us s.there, members us ts s.back) ∙ sym (union_is m w us k)
  agree (grouped {m} {v} {w} {ts} {us}) h k =
      union_is m w (more_plans (union_plan m v ts) us) h
      ∙ ap (λ x. join_value m w (x ∷ outcomes us)) (union_is m v ts h.1.0)
      ∙ union_of_union m v w (outcomes us) (outcomes ts) h.0.high (fits ts h.1.0.1)
      ∙ ap (join_value m w) (sym (outcomes-both ts us))
      ∙ sym (union_is m w (both_plans ts us) k)
  agree same h k = refl
  agree (stored {t}) h k = refl
  agree (flipped r) h k = sym (agree r k h)
  agree (chained u l r s) h k = agree r h l ∙ agree s l k
  agree (below_coupon {t} {u} {c} r) h k = ap (λ x. add x (set_of (c ∷ []))) (agree r h.0 k.0)
  agree (below_fold {t} {u} {e} r) h k = ap (λ x. folded x e) (agree r h.0 k.0)
  agree (below_union {m} {w} {ts} {us} r) h k = merged_as m w (outcomes ts) (outcomes us) (agree_each r h.1 k.1)

  agree_each : {ts us : Plans} → AreRearrangements ts us → LeavesOfEach IsCanonicalCleared ts → LeavesOfEach IsCanonicalCleared us → outcomes ts ≡ outcomes us
  agree_each none h k = refl
  agree_each (more r rs) h k = λ i. agree r h.0 k.0 i ∷ agree_each rs h.1 k.1 i

pub rearranged_plans_agree : RearrangedPlansAgree
rearranged_plans_agree t u h k r = agree r h k
