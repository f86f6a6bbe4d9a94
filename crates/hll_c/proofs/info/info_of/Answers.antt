-- SPDX-License-Identifier: Apache-2.0
use Rattle.std.proofs.Common.{◌≡◌}
use Rattle.hll_base.proofs.Errors.{IfErr-passed}
use Rattle.hll_c.specs.Answers.{RefusesInfo, image_refused}
use Rattle.hll_c.proofs.Images.{refuses_image, refuses_info}
use Rattle.hll_c.proofs.info.info_of.Goals as goal

pub returns-then-size-ne-INFO_SIZE-clause-err : goal.returns-then-size-ne-INFO_SIZE-clause-err
returns-then-size-ne-INFO_SIZE-clause-err c = refuses_info (c.args.size ≡ 64) c.args.image.now c.new.result c.new.ensures c.if-size-ne-INFO_SIZE.true

pub returns-in_err-image-clause-err : goal.returns-in_err-image-clause-err
returns-in_err-image-clause-err c =
    let e = c.in_err-image in
    IfErr-passed (RefusesInfo (c.args.size ≡ 64) c.args.image.now) c.from_residual.result e.field-0.0 c.from_residual.ensures.1
    (image_refused c.if-size-ne-INFO_SIZE.false (refuses_image c.args.image.now e.field-0.0 e.ensures.err.first e.ensures.err.asked), e.ensures.needed)
