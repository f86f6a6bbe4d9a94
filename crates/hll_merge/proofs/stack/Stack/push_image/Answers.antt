-- SPDX-License-Identifier: Apache-2.0
use Rattle.std.proofs.Common.{inl, inr, ◌∷◌, [], ◌++◌, ap, sym, subst, ◌∙◌}
use Rattle.hll_base.proofs.Errors.{IfErr-passed}
use Rattle.hll_sketch.specs.Layout.{SketchLayout}
use Rattle.hll_text.specs.Step.{fault_of}
use Rattle.hll_text.specs.Text.{image}
use Rattle.hll_merge.specs.Stack.{StackCarries}
use Rattle.hll_merge.proofs.StackLemmas.{carries-image, fault_of-image}
use Rattle.hll_merge.proofs.stack.Stack.push_image.Goals as goal

pub returns-in_err-sketch-clause-err : goal.returns-in_err-sketch-clause-err
returns-in_err-sketch-clause-err g c =
    IfErr-passed _ c.from_residual-in_err-sketch.result (fault_of c.in_err-sketch.field-0.0) c.from_residual-in_err-sketch.ensures.1
    (λ ts h. elim c.in_err-sketch.ensures.order [ inl m ↦ inl (ap fault_of m) | inr f ↦ inr (fault_of-image ts c.args.bytes.now c.in_err-sketch.field-0.0 f) ])

pub returns-clause-ok : goal.returns-clause-ok
returns-clause-ok g c =
    let made : SketchLayout = c.in_ok-sketch.sketch in
    let is = c.in_ok-push.ensures.items ∙ ap (λ xs. xs ++ made ∷ []) c.self.view_is in
    subst (λ xs. StackCarries c.args.self.now (image c.args.bytes.now) xs) (sym is) (carries-image c.args.self.now c.args.bytes.now made c.in_ok-sketch.ensures.ok)
