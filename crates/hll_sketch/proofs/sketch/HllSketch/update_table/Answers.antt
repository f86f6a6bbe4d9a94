-- SPDX-License-Identifier: Apache-2.0
use Rattle.std.proofs.Common.{◌≡◌, ◌∙◌, ℕ, false, leb, [], ◌∷◌, sym, ap, subst, inl, inr}
use Rattle.hll_base.proofs.Errors.{OnErr-of}
use Rattle.hll_coupons.specs.declared.container.Insertion.TheVariants.{Refused}
use Rattle.hll_coupons.specs.Pair.{Pairs, set_of}
use Rattle.hll_coupons.specs.Table.{Table, coupons_of}
use Rattle.hll_sketch.specs.Adding.{add}
use Rattle.hll_sketch.specs.Layout as layouts
use Rattle.hll_sketch.specs.Layout.{SketchLayout, layout_of, can_hold_with, sketch_of, IsLayoutFor}
use Rattle.hll_sketch.specs.Stage.{can_hold}
use Rattle.hll_sketch.specs.Value.{Sketch}
use Rattle.hll_sketch.proofs.Keeping.{needs_memory, taken_as, refused_as}
use Rattle.hll_sketch.proofs.sketch.HllSketch.update_table.Goals as goal
use Rattle.hll_sketch.proofs.sketch.HllSketch.update_table.Goals.{in-List, in-Set}

pub returns-in-Added-clause-ok : goal.returns-in-Added-clause-ok
returns-in-Added-clause-ok g c =
    let k : ℕ = c.self.inside.lg_config_k in
    let T : Pairs = set_of (c.args.coupon ∷ []) in
    let taken : c.match-self.insertion ≡ Refused → ⊥ = λ e. elim c.in-Added.is [ inl added ↦ cc | inr held ↦ cc ] in
    elim c.match-self.branch [
      | in-List w ↦
          let u : Table = w.in-List.list in
          let x : SketchLayout = record { lg_k = k; layout = layouts.list w.in-List.hll_type u } in
          let is : x ≡ c.args.self.now = (λ i. let y : SketchLayout = record { lg_k = k; layout = layout_of (sym w.in-List.is i) } in y) ∙ c.self.view_is in
          let size = w.lg_size.ensures.size ∙ ap (λ (t : Table). t.lg_size) w.container.ensures.same in
          let bound : (n : ℕ) → can_hold u.lg_size n ≡ leb n w.most_kept-most.result = λ n. ap (λ q. can_hold q n) (sym size) ∙ w.most_kept-most.ensures.most n in
          let legal : IsLayoutFor k (layouts.list w.in-List.hll_type u) = subst (IsLayoutFor k) (ap layout_of w.in-List.is) c.self.invariant.1 in
          let new = w.update_within-insertion in
          ap (λ s. let y : SketchLayout = record { lg_k = s.lg_config_k; layout = layout_of s.mode } in sketch_of y) w.self-inside-is
          ∙ (λ i. let y : Sketch = record { lg_k = k; width = w.in-List.hll_type; content = taken_as k u c.args.coupon w.most_kept-most.result new.result (coupons_of new.new.self) new.new.self.lg_size (inl legal) bound new.ensures.insertion (λ e. taken (w.insertion-is ∙ e)) new.ensures.members new.ensures.size i } in y)
          ∙ ap (λ y. add (sketch_of y) T) is
      | in-Set w ↦
          let u : Table = w.in-Set.set in
          let x : SketchLayout = record { lg_k = k; layout = layouts.set w.in-Set.hll_type u } in
          let is : x ≡ c.args.self.now = (λ i. let y : SketchLayout = record { lg_k = k; layout = layout_of (sym w.in-Set.is i) } in y) ∙ c.self.view_is in
          let size = w.lg_size-in-Set.ensures.size ∙ ap (λ (t : Table). t.lg_size) w.container-in-Set.ensures.same in
          let bound : (n : ℕ) → can_hold u.lg_size n ≡ leb n w.most_kept-most-in-Set.result = λ n. ap (λ q. can_hold q n) (sym size) ∙ w.most_kept-most-in-Set.ensures.most n in
          let legal : IsLayoutFor k (layouts.set w.in-Set.hll_type u) = subst (IsLayoutFor k) (ap layout_of w.in-Set.is) c.self.invariant.1 in
          let new = w.update_within-insertion-in-Set in
          ap (λ s. let y : SketchLayout = record { lg_k = s.lg_config_k; layout = layout_of s.mode } in sketch_of y) w.self-inside-is
          ∙ (λ i. let y : Sketch = record { lg_k = k; width = w.in-Set.hll_type; content = taken_as k u c.args.coupon w.most_kept-most-in-Set.result new.result (coupons_of new.new.self) new.new.self.lg_size (inr (legal.0, legal.1)) bound new.ensures.insertion (λ e. taken (w.insertion-is ∙ e)) new.ensures.members new.ensures.size i } in y)
          ∙ ap (λ y. add (sketch_of y) T) is
    ]

pub returns-in_err-self-inside-in-Refused-clause-needed : goal.returns-in_err-self-inside-in-Refused-clause-needed
returns-in_err-self-inside-in-Refused-clause-needed g c =
    let k : ℕ = c.self.inside.lg_config_k in
    let overflows : can_hold_with c.args.self.now.layout c.args.coupon ≡ false = elim c.match-self.branch [
      | in-List w ↦
          let u : Table = w.in-List.list in
          let x : SketchLayout = record { lg_k = k; layout = layouts.list w.in-List.hll_type u } in
          let is : x ≡ c.args.self.now = (λ i. let y : SketchLayout = record { lg_k = k; layout = layout_of (sym w.in-List.is i) } in y) ∙ c.self.view_is in
          let size = w.lg_size.ensures.size ∙ ap (λ (t : Table). t.lg_size) w.container.ensures.same in
          let bound : (n : ℕ) → can_hold u.lg_size n ≡ leb n w.most_kept-most.result = λ n. ap (λ q. can_hold q n) (sym size) ∙ w.most_kept-most.ensures.most n in
          ap (λ y. can_hold_with y.layout c.args.coupon) (sym is)
          ∙ refused_as u c.args.coupon w.most_kept-most.result w.update_within-insertion.result bound w.update_within-insertion.ensures.insertion (sym w.insertion-is ∙ c.in-Refused.is)
      | in-Set w ↦
          let u : Table = w.in-Set.set in
          let x : SketchLayout = record { lg_k = k; layout = layouts.set w.in-Set.hll_type u } in
          let is : x ≡ c.args.self.now = (λ i. let y : SketchLayout = record { lg_k = k; layout = layout_of (sym w.in-Set.is i) } in y) ∙ c.self.view_is in
          let size = w.lg_size-in-Set.ensures.size ∙ ap (λ (t : Table). t.lg_size) w.container-in-Set.ensures.same in
          let bound : (n : ℕ) → can_hold u.lg_size n ≡ leb n w.most_kept-most-in-Set.result = λ n. ap (λ q. can_hold q n) (sym size) ∙ w.most_kept-most-in-Set.ensures.most n in
          ap (λ y. can_hold_with y.layout c.args.coupon) (sym is)
          ∙ refused_as u c.args.coupon w.most_kept-most-in-Set.result w.update_within-insertion-in-Set.result bound w.update_within-insertion-in-Set.ensures.insertion (sym w.insertion-is ∙ c.in-Refused.is)
    ] in
    OnErr-of c.from_residual.result _ (needs_memory c.args.self.now.lg_k c.args.self.now.layout c.args.coupon overflows)
