-- SPDX-License-Identifier: Apache-2.0
use Rattle.hll_base.proofs.Errors.{IfErr-passed}
use Rattle.hll_c.specs.Answers.{RefusesInfo, image_refused}
use Rattle.hll_c.proofs.Images.{refuses_image}
use Rattle.hll_c.proofs.estimate.estimate_of_image.Goals as goal

pub returns-in_err-image-clause-err : goal.returns-in_err-image-clause-err
returns-in_err-image-clause-err c =
    let e = c.in_err-image in
    IfErr-passed (RefusesInfo (Unit {0}) c.args.image.now) c.from_residual.result e.field-0.0 c.from_residual.ensures.1
    (image_refused tt (refuses_image c.args.image.now e.field-0.0 e.ensures.err.first e.ensures.err.asked), e.ensures.needed)
