-- SPDX-License-Identifier: Apache-2.0
use Rattle.std.proofs.Common.{◌≡◌, ap, ◌∙◌}
use Rattle.hll_sketch.specs.Folding.{folded_content}
use Rattle.hll_sketch.specs.Layout.{SketchLayout, layout_of, content_in}
use Rattle.hll_sketch.proofs.Folds.{folded_at_own}
use Rattle.std.proofs.lemmas.Result.{IfOk-weaker}
use Rattle.hll_sketch.proofs.sketch.HllSketch.folded_registers.Goals as goal

pub returns-then-lg_k-self-clause-content : goal.returns-then-lg_k-self-clause-content
returns-then-lg_k-self-clause-content g c =
    let x : SketchLayout = c.args.self.now in
    let is : content_in (layout_of c.self.inside.mode) ≡ folded_content x.lg_k c.args.lg_k (content_in x.layout) =
    ap (λ (y : SketchLayout). content_in y.layout) c.self.view_is
    ∙ folded_at_own x.lg_k c.args.lg_k (content_in x.layout) (c.if-lg_k-self.true ∙ ap (λ (y : SketchLayout). y.lg_k) c.self.view_is) c.value_is_legal.ensures.lg_k.high c.value_is_legal.ensures.content c.requires.registers in
    IfOk-weaker c.clone.result _ _ (λ m same. ap content_in same ∙ is) c.clone.ensures.ok
