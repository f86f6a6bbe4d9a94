-- SPDX-License-Identifier: Apache-2.0
use Rattle.hll_c.specs.Answers.{RefusesArguments}
use Rattle.hll_c.specs.Calls.{AreNewArguments, IsEmptyAt}
use Rattle.hll_c.proofs.Answers.{answers_of}
use Rattle.hll_c.proofs.Images.{no_memory_new}
use Rattle.hll_c.proofs.hll_image_new.Goals as goal

pub returns : goal.returns
returns c =
    answers_of (IsEmptyAt c.args.lg_k c.args.width) (RefusesArguments (AreNewArguments c.args.lg_k c.args.width))
    (no_memory_new c.args.lg_k c.args.width)
    c.empty.result c.args.out.now c.put_image.new.out c.args.size.now c.put_image.new.size c.put_image.result c.empty.ensures.ok c.empty.ensures.err c.put_image.ensures
