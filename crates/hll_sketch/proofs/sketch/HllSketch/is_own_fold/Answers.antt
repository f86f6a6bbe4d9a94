-- SPDX-License-Identifier: Apache-2.0
use Rattle.std.proofs.Common.{◌≡◌, ℕ, true, refl, sym, ap, ◌∙◌, inl, inr}
use Rattle.std.specs.Prelude.{IsTrue, ◌↔◌}
use Rattle.hll_sketch.specs.Folding.{folded}
use Rattle.hll_sketch.specs.Layout.{SketchLayout, layout_of, content_in, sketch_of}
use Rattle.hll_sketch.specs.Value.{in_registers, IsLegal}
use Rattle.hll_sketch.proofs.Folds.{own_fold_of_registers}
use Rattle.hll_sketch.proofs.sketch.HllSketch.is_own_fold.Goals as goal

-- a sketch in registers at their own lg_k is its own fold
own : (y x : SketchLayout) (e : ℕ) → y ≡ x → y.lg_k ≡ e → IsLegal (sketch_of x) → in_registers (content_in y.layout) ≡ true →
    IsTrue true ↔ (folded (sketch_of x) e ≡ sketch_of x)
own y x e view same legal inside =
    let at : x.lg_k ≡ e = sym (ap (λ (z : SketchLayout). z.lg_k) view) ∙ same in
    let kept : in_registers (content_in x.layout) ≡ true = sym (ap (λ (z : SketchLayout). in_registers (content_in z.layout)) view) ∙ inside in
    ((λ yes. own_fold_of_registers (sketch_of x) e at legal kept), (λ is. refl))

pub returns-in-Array4 : goal.returns-in-Array4
returns-in-Array4 g c =
    own _ c.args.self.now c.args.lg_k c.self.view_is c.if-self-lg_k.false c.value_is_legal.ensures (elim c.in-Array4.is [
      | inl four ↦ ap (λ m. in_registers (content_in (layout_of m))) four.1
      | inr others ↦ elim others [
        | inl six ↦ ap (λ m. in_registers (content_in (layout_of m))) six.1
        | inr eight ↦ ap (λ m. in_registers (content_in (layout_of m))) eight.1
      ]
    ])

pub returns-in-Array4-2 : goal.returns-in-Array4-2
returns-in-Array4-2 g c =
    own _ c.args.self.now c.args.lg_k c.self.view_is c.if-self-lg_k.false c.value_is_legal.ensures (elim c.in-Array4.is [
      | inl four ↦ ap (λ m. in_registers (content_in (layout_of m))) four.1
      | inr others ↦ elim others [
        | inl six ↦ ap (λ m. in_registers (content_in (layout_of m))) six.1
        | inr eight ↦ ap (λ m. in_registers (content_in (layout_of m))) eight.1
      ]
    ])

pub returns-in-Array4-3 : goal.returns-in-Array4-3
returns-in-Array4-3 g c =
    own _ c.args.self.now c.args.lg_k c.self.view_is c.if-self-lg_k.false c.value_is_legal.ensures (elim c.in-Array4.is [
      | inl four ↦ ap (λ m. in_registers (content_in (layout_of m))) four.1
      | inr others ↦ elim others [
        | inl six ↦ ap (λ m. in_registers (content_in (layout_of m))) six.1
        | inr eight ↦ ap (λ m. in_registers (content_in (layout_of m))) eight.1
      ]
    ])
