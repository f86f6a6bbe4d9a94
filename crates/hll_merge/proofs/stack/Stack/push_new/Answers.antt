-- SPDX-License-Identifier: Apache-2.0
use Rattle.std.proofs.Common.{◌∷◌, [], ◌++◌, ap, ◌∙◌, refl}
use Rattle.hll_base.proofs.Errors.{IfErr-passed}
use Rattle.hll_sketch.specs.Layout.{SketchLayout}
use Rattle.hll_text.specs.Step.{fault_of}
use Rattle.hll_merge.specs.Plan.{new}
use Rattle.hll_merge.proofs.StackLemmas.{carries-push}
use Rattle.hll_merge.proofs.stack.Stack.push_new.Goals as goal

pub returns-in_err-sketch-clause-err : goal.returns-in_err-sketch-clause-err
returns-in_err-sketch-clause-err g c =
    IfErr-passed _ c.from_residual-in_err-sketch.result (fault_of c.in_err-sketch.field-0.0) c.from_residual-in_err-sketch.ensures.1
    (absurd (c.in_err-sketch.ensures.outside c.requires))

pub returns-clause-ok : goal.returns-clause-ok
returns-clause-ok g c =
    let made : SketchLayout = c.in_ok-sketch.sketch in
    λ ts h. (
      ts ++ new c.args.lg_k c.args.hll_type ∷ [],
      refl,
      carries-push c.args.self.now _ ts made (new c.args.lg_k c.args.hll_type) h c.in_ok-sketch.ensures.ok
          (c.in_ok-push.ensures.items ∙ ap (λ xs. xs ++ made ∷ []) c.self.view_is),
    )
