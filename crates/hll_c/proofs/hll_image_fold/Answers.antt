-- SPDX-License-Identifier: Apache-2.0
use Rattle.hll_c.specs.Answers.{WithFields}
use Rattle.hll_c.specs.Calls.{IsMadeOf, IsFoldOf, RefusesFold}
use Rattle.hll_c.proofs.Answers.{answers_with}
use Rattle.hll_c.proofs.hll_image_fold.Goals as goal

pub returns : goal.returns
returns c =
    answers_with (λ v. v.items) c.folded.result (WithFields (IsMadeOf c.args.image.now (IsFoldOf c.args.lg_k))) (RefusesFold c.args.lg_k c.args.image.now)
    c.args.out.now c.put_bytes.new.out c.args.size.now c.put_bytes.new.size c.put_bytes.result c.folded.ensures.ok c.folded.ensures.err c.put_bytes.ensures
