-- SPDX-License-Identifier: Apache-2.0
use Rattle.std.proofs.lemmas.Result.{IfOk-weaker}
use Rattle.hll_c.specs.Answers.{IsImageOf, WithFields}
use Rattle.hll_c.proofs.Answers.{IsOf, IsFor, answers_with, image_of_made}
use Rattle.hll_c.proofs.answer.put_image.Goals as goal

pub returns : goal.returns
returns c =
    answers_with (λ v. v.items) c.image_of.result (WithFields (λ y. IsOf c.args.made y)) (λ r. IsFor c.args.made r) c.args.out.now c.put_bytes.new.out c.args.size.now c.put_bytes.new.size c.put_bytes.result
    (IfOk-weaker c.image_of.result _ (λ v. IsImageOf (WithFields (λ y. IsOf c.args.made y)) v.items) (λ v written. image_of_made c.args.made v.items written) c.image_of.ensures.ok)
    c.image_of.ensures.err c.put_bytes.ensures
