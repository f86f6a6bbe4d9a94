-- SPDX-License-Identifier: Apache-2.0
use Rattle.std.proofs.lemmas.Result.{IfOk-weaker}
use Rattle.hll_sketch.specs.EstimatorFields.{FillsFields}
use Rattle.hll_sketch.specs.Layout.{sketch_of}
use Rattle.hll_c.specs.Answers.{IsImageOf}
use Rattle.hll_c.proofs.answer.image_with_fields.Goals as goal

pub returns-clause-ok : goal.returns-clause-ok
returns-clause-ok c =
    IfOk-weaker c.serialize.result _ (λ v. IsImageOf (FillsFields (sketch_of c.args.sketch)) v.items)
    (λ v written. (sketch_of c.fill_estimator_fields.new.self, c.fill_estimator_fields.ensures.fields, written)) c.serialize.ensures.ok
