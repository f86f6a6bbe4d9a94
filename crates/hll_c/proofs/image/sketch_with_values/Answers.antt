-- SPDX-License-Identifier: Apache-2.0
use Rattle.hll_base.proofs.Errors.{IfErr-passed}
use Rattle.hll_sketch.specs.Layout.{sketch_of}
use Rattle.hll_c.specs.Answers.{RefusesWith, image_refused}
use Rattle.hll_c.proofs.Images.{refuses_image, refuses_memory}
use Rattle.hll_c.proofs.image.sketch_with_values.Goals as goal

pub returns-in_err-sketch-clause-err : goal.returns-in_err-sketch-clause-err
returns-in_err-sketch-clause-err g c =
    let e = c.in_err-sketch in
    IfErr-passed (RefusesWith (g.S.Strings.are c.args.values.now) c.args.image.now) c.from_residual.result e.field-0.0 c.from_residual.ensures.1
    (image_refused c.requires (refuses_image c.args.image.now e.field-0.0 e.ensures.order e.ensures.asked))

pub returns-in_err-add_values-clause-err : goal.returns-in_err-add_values-clause-err
returns-in_err-add_values-clause-err g c =
    let e = c.in_err-add_values in
    IfErr-passed (RefusesWith (g.S.Strings.are c.args.values.now) c.args.image.now) c.from_residual-in_err-add_values.result e.field-0.0 c.from_residual-in_err-add_values.ensures.1
    (image_refused c.requires (refuses_memory c.args.image.now (sketch_of c.in_ok-sketch.sketch) e.field-0.0 c.in_ok-sketch.ensures.ok e.ensures.err))
