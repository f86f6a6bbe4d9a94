-- SPDX-License-Identifier: Apache-2.0
use Rattle.std.proofs.lemmas.Result.{IfOk-weaker, IfErr-weaker}
use Rattle.hll_base.proofs.Errors.{IfErr-passed}
use Rattle.hll_sketch.specs.Layout.{sketch_of}
use Rattle.hll_c.specs.Answers.{RefusesImage}
use Rattle.hll_c.specs.Calls.{HasWidth, IsMadeOf}
use Rattle.hll_c.proofs.Images.{refuses_image, refuses_memory}
use Rattle.hll_c.proofs.image.sketch_at.Goals as goal

pub returns-in_err-deserialize-clause-err : goal.returns-in_err-deserialize-clause-err
returns-in_err-deserialize-clause-err c =
    let e = c.in_err-deserialize in
    IfErr-passed (RefusesImage c.args.image.now) c.from_residual.result e.field-0.0 c.from_residual.ensures.1 (refuses_image c.args.image.now e.field-0.0 e.ensures.order e.ensures.asked)

pub returns-clause-ok : goal.returns-clause-ok
returns-clause-ok c =
    IfOk-weaker c.into_width.result _ (λ s. IsMadeOf c.args.image.now (HasWidth c.args.width) (sketch_of s))
    (λ s made. record { sketch = sketch_of c.in_ok-deserialize.field-0; read = c.in_ok-deserialize.ensures.ok; is_made = made })
    c.into_width.ensures.ok

pub returns-clause-err : goal.returns-clause-err
returns-clause-err c =
    IfErr-weaker c.into_width.result _ (RefusesImage c.args.image.now)
    (λ e memory. refuses_memory c.args.image.now (sketch_of c.in_ok-deserialize.field-0) e c.in_ok-deserialize.ensures.ok memory)
    c.into_width.ensures.err
