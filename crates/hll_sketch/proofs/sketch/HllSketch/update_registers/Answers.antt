-- SPDX-License-Identifier: Apache-2.0
use Rattle.std.proofs.Common.{◌≡◌, ℕ, List, None, OnOk, OnErr, sym, ap, subst, ◌∙◌}
use Rattle.std.proofs.lemmas.Result.{IfOk-weaker, IfErr-weaker}
use Rattle.hll_base.specs.declared.hll_type.HllType.TheVariants.{Hll4, Hll6, Hll8}
use Rattle.hll_sketch.specs.Laws.{add_in_turn, AddsSome}
use Rattle.hll_sketch.specs.Layout as layouts
use Rattle.hll_sketch.specs.Layout.{SketchLayout, Layout, layout_of, sketch_of, IsLayoutFor}
use Rattle.hll_sketch.specs.Value.{IsLgK}
use Rattle.hll_sketch.proofs.Turns.{of_registers, put_in_turn, put_some_in_turn}
use Rattle.hll_sketch.proofs.sketch.HllSketch.update_registers.Goals as goal
use Rattle.hll_sketch.proofs.sketch.HllSketch.update_registers.Goals.{in-Array4, in-Array6, in-Array8}

pub invariant_of-self : goal.invariant_of-self
invariant_of-self g c =
    let k : ℕ = c.self.inside.lg_config_k in
    elim c.match-self.branch [
      | in-Array4 w ↦
          let here : w.in-Array4.array.stored.lg_k ≡ k = subst (IsLayoutFor k) (ap layout_of w.in-Array4.is) c.self.invariant.1 in
          subst (λ s. IsLgK s.lg_config_k × IsLayoutFor s.lg_config_k (layout_of s.mode)) (sym w.self-inside-is) (c.self.invariant.0, w.put_each.ensures.lg_k ∙ here)
      | in-Array6 w ↦
          let here : w.in-Array6.array.lg_k ≡ k = subst (IsLayoutFor k) (ap layout_of w.in-Array6.is) c.self.invariant.1 in
          subst (λ s. IsLgK s.lg_config_k × IsLayoutFor s.lg_config_k (layout_of s.mode)) (sym w.self-inside-is) (c.self.invariant.0, w.put_each-in-Array6.ensures.lg_k ∙ here)
      | in-Array8 w ↦
          let here : w.in-Array8.array.lg_k ≡ k = subst (IsLayoutFor k) (ap layout_of w.in-Array8.is) c.self.invariant.1 in
          subst (λ s. IsLgK s.lg_config_k × IsLayoutFor s.lg_config_k (layout_of s.mode)) (sym w.self-inside-is) (c.self.invariant.0, w.put_each-in-Array8.ensures.lg_k ∙ here)
    ]

pub returns-clause-ok : goal.returns-clause-ok
returns-clause-ok g c =
    let k : ℕ = c.self.inside.lg_config_k in
    let order : List ℕ = c.args.raw_coupons.now in
    let x : Layout → SketchLayout = λ l. record { lg_k = k; layout = l } in
    elim c.match-self.branch [
      | in-Array4 w ↦
          let is : x (layouts.array Hll4 w.in-Array4.array.stored w.in-Array4.array.exceptions) ≡ c.args.self.now = (λ i. x (layout_of (sym w.in-Array4.is i))) ∙ c.self.view_is in
          let here : w.in-Array4.array.stored.lg_k ≡ k = subst (IsLayoutFor k) (ap layout_of w.in-Array4.is) c.self.invariant.1 in
          subst (λ r. OnOk r _) (sym w.result-is) (IfOk-weaker w.put_each.result _ _
          (λ _ put. ap (λ s. let y : SketchLayout = record { lg_k = s.lg_config_k; layout = layout_of s.mode } in sketch_of y) w.self-inside-is ∙ ap (of_registers k Hll4) put ∙ put_in_turn k Hll4 w.in-Array4.array.stored order here ∙ ap (λ y. add_in_turn (sketch_of y) order) is) w.put_each.ensures.ok)
      | in-Array6 w ↦
          let is : x (layouts.array Hll6 w.in-Array6.array None) ≡ c.args.self.now = (λ i. x (layout_of (sym w.in-Array6.is i))) ∙ c.self.view_is in
          let here : w.in-Array6.array.lg_k ≡ k = subst (IsLayoutFor k) (ap layout_of w.in-Array6.is) c.self.invariant.1 in
          subst (λ r. OnOk r _) (sym w.result-is) (IfOk-weaker w.put_each-in-Array6.result _ _
          (λ _ put. ap (λ s. let y : SketchLayout = record { lg_k = s.lg_config_k; layout = layout_of s.mode } in sketch_of y) w.self-inside-is ∙ ap (of_registers k Hll6) put ∙ put_in_turn k Hll6 w.in-Array6.array order here ∙ ap (λ y. add_in_turn (sketch_of y) order) is) w.put_each-in-Array6.ensures.ok)
      | in-Array8 w ↦
          let is : x (layouts.array Hll8 w.in-Array8.array None) ≡ c.args.self.now = (λ i. x (layout_of (sym w.in-Array8.is i))) ∙ c.self.view_is in
          let here : w.in-Array8.array.lg_k ≡ k = subst (IsLayoutFor k) (ap layout_of w.in-Array8.is) c.self.invariant.1 in
          subst (λ r. OnOk r _) (sym w.result-is) (IfOk-weaker w.put_each-in-Array8.result _ _
          (λ _ put. ap (λ s. let y : SketchLayout = record { lg_k = s.lg_config_k; layout = layout_of s.mode } in sketch_of y) w.self-inside-is ∙ ap (of_registers k Hll8) put ∙ put_in_turn k Hll8 w.in-Array8.array order here ∙ ap (λ y. add_in_turn (sketch_of y) order) is) w.put_each-in-Array8.ensures.ok)
    ]

pub returns-clause-stopped : goal.returns-clause-stopped
returns-clause-stopped g c =
    let k : ℕ = c.self.inside.lg_config_k in
    let order : List ℕ = c.args.raw_coupons.now in
    let x : Layout → SketchLayout = λ l. record { lg_k = k; layout = l } in
    elim c.match-self.branch [
      | in-Array4 w ↦
          let is : x (layouts.array Hll4 w.in-Array4.array.stored w.in-Array4.array.exceptions) ≡ c.args.self.now = (λ i. x (layout_of (sym w.in-Array4.is i))) ∙ c.self.view_is in
          let here : w.in-Array4.array.stored.lg_k ≡ k = subst (IsLayoutFor k) (ap layout_of w.in-Array4.is) c.self.invariant.1 in
          subst (λ r. OnErr r _) (sym w.result-is) (IfErr-weaker w.put_each.result _ _
          (λ _ some. subst (λ y. AddsSome (sketch_of c.args.self.now) y order) (sym (ap (λ s. let y : SketchLayout = record { lg_k = s.lg_config_k; layout = layout_of s.mode } in sketch_of y) w.self-inside-is))
          (subst (λ z. AddsSome (sketch_of z) (of_registers k Hll4 w.put_each.new.store.stored) order) is (put_some_in_turn k Hll4 w.in-Array4.array.stored _ order here some))) w.put_each.ensures.stopped)
      | in-Array6 w ↦
          let is : x (layouts.array Hll6 w.in-Array6.array None) ≡ c.args.self.now = (λ i. x (layout_of (sym w.in-Array6.is i))) ∙ c.self.view_is in
          let here : w.in-Array6.array.lg_k ≡ k = subst (IsLayoutFor k) (ap layout_of w.in-Array6.is) c.self.invariant.1 in
          subst (λ r. OnErr r _) (sym w.result-is) (IfErr-weaker w.put_each-in-Array6.result _ _
          (λ _ some. subst (λ y. AddsSome (sketch_of c.args.self.now) y order) (sym (ap (λ s. let y : SketchLayout = record { lg_k = s.lg_config_k; layout = layout_of s.mode } in sketch_of y) w.self-inside-is))
          (subst (λ z. AddsSome (sketch_of z) (of_registers k Hll6 w.put_each-in-Array6.new.store) order) is (put_some_in_turn k Hll6 w.in-Array6.array _ order here some))) w.put_each-in-Array6.ensures.stopped)
      | in-Array8 w ↦
          let is : x (layouts.array Hll8 w.in-Array8.array None) ≡ c.args.self.now = (λ i. x (layout_of (sym w.in-Array8.is i))) ∙ c.self.view_is in
          let here : w.in-Array8.array.lg_k ≡ k = subst (IsLayoutFor k) (ap layout_of w.in-Array8.is) c.self.invariant.1 in
          subst (λ r. OnErr r _) (sym w.result-is) (IfErr-weaker w.put_each-in-Array8.result _ _
          (λ _ some. subst (λ y. AddsSome (sketch_of c.args.self.now) y order) (sym (ap (λ s. let y : SketchLayout = record { lg_k = s.lg_config_k; layout = layout_of s.mode } in sketch_of y) w.self-inside-is))
          (subst (λ z. AddsSome (sketch_of z) (of_registers k Hll8 w.put_each-in-Array8.new.store) order) is (put_some_in_turn k Hll8 w.in-Array8.array _ order here some))) w.put_each-in-Array8.ensures.stopped)
    ]
