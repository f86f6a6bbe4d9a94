-- SPDX-License-Identifier: Apache-2.0
use Rattle.hll_base.proofs.Errors.{IfErr-passed}
use Rattle.hll_sketch.specs.Layout.{sketch_of}
use Rattle.hll_sketch.proofs.FirstFailing.{IfErr-with}
use Rattle.hll_c.specs.Answers.{image_refused}
use Rattle.hll_c.specs.Calls.{IsMadeOf, IsFoldOf, RefusesFold, with}
use Rattle.hll_c.proofs.Answers.{IfOk-with}
use Rattle.hll_c.proofs.Images.{refuses_image, refuses_fold}
use Rattle.hll_c.proofs.image.folded_sketch.Goals as goal

pub returns-in_err-deserialize-clause-err : goal.returns-in_err-deserialize-clause-err
returns-in_err-deserialize-clause-err c =
    let e = c.in_err-deserialize in
    IfErr-passed (RefusesFold c.args.lg_k c.args.image.now) c.from_residual.result e.field-0.0 c.from_residual.ensures.1
    (with (image_refused c.requires (refuses_image c.args.image.now e.field-0.0 e.ensures.order e.ensures.asked)))

pub returns-clause-ok : goal.returns-clause-ok
returns-clause-ok c =
    IfOk-with c.folded-2.result _ _ (λ s. IsMadeOf c.args.image.now (IsFoldOf c.args.lg_k) (sketch_of s))
    (λ s made fold. record {
      sketch = sketch_of c.in_ok-deserialize.field-0;
      read = c.in_ok-deserialize.ensures.ok;
      is_made = record { lg_k_is = c.requires; within = fold; is = made };
    })
    c.folded-2.ensures.ok c.folded-2.ensures.lg_k

pub returns-clause-err : goal.returns-clause-err
returns-clause-err c =
    IfErr-with c.folded-2.result _ _ (RefusesFold c.args.lg_k c.args.image.now)
    (λ e kind outside. refuses_fold c.args.image.now (sketch_of c.in_ok-deserialize.field-0) c.args.lg_k e c.requires c.in_ok-deserialize.ensures.ok kind outside)
    c.folded-2.ensures.err c.folded-2.ensures.outside
