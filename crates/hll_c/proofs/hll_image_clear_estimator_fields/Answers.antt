-- SPDX-License-Identifier: Apache-2.0
use Rattle.hll_c.specs.Answers.{RefusesImage}
use Rattle.hll_c.specs.Calls.{IsMadeOf, IsCleared}
use Rattle.hll_c.proofs.Answers.{answers_with}
use Rattle.hll_c.proofs.hll_image_clear_estimator_fields.Goals as goal

pub returns : goal.returns
returns c =
    answers_with (λ v. v.items) c.without_estimator_fields.result (IsMadeOf c.args.image.now IsCleared) (RefusesImage c.args.image.now)
    c.args.out.now c.put_bytes.new.out c.args.size.now c.put_bytes.new.size c.put_bytes.result c.without_estimator_fields.ensures.ok c.without_estimator_fields.ensures.err c.put_bytes.ensures
