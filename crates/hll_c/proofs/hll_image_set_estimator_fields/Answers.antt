-- SPDX-License-Identifier: Apache-2.0
use Rattle.hll_sketch.specs.EstimatorFields.{SetsFields}
use Rattle.hll_c.specs.Answers.{WithFields, RefusesImage}
use Rattle.hll_c.specs.Calls.{IsMadeOf}
use Rattle.hll_c.proofs.Answers.{answers_with}
use Rattle.hll_c.proofs.hll_image_set_estimator_fields.Goals as goal

pub returns : goal.returns
returns c =
    answers_with (λ v. v.items) c.with_estimator_fields.result (WithFields (IsMadeOf c.args.image.now SetsFields)) (RefusesImage c.args.image.now)
    c.args.out.now c.put_bytes.new.out c.args.size.now c.put_bytes.new.size c.put_bytes.result c.with_estimator_fields.ensures.ok c.with_estimator_fields.ensures.err c.put_bytes.ensures
