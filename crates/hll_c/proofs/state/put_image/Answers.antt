-- SPDX-License-Identifier: Apache-2.0
use Rattle.hll_c.specs.Answers.{WithFields}
use Rattle.hll_c.specs.Calls.{IsWidth}
use Rattle.hll_c.specs.States.{IsOfState, RefusesState}
use Rattle.hll_state.specs.Memory.{IsSettled}
use Rattle.hll_c.proofs.Codes.{if_put}
use Rattle.hll_c.proofs.Answers.{answers_with}
use Rattle.hll_c.proofs.state.put_image.Goals as goal

pub returns-clause-image : goal.returns-clause-image
returns-clause-image c =
    answers_with (λ v. v.items) c.image_of.result (WithFields (IsOfState c.args.width c.args.state.now)) (RefusesState (IsWidth c.args.width) c.args.state.now)
    c.args.out.now c.put_bytes.new.out c.args.size.now c.put_bytes.new.size c.put_bytes.result c.image_of.ensures.ok c.image_of.ensures.err c.put_bytes.ensures

pub returns-clause-settled : goal.returns-clause-settled
returns-clause-settled c =
    if_put (λ v. v.items) c.image_of.result (IsSettled c.image_of.new.state) c.args.out.now c.put_bytes.new.out c.args.size.now c.put_bytes.new.size c.put_bytes.result c.put_bytes.ensures c.image_of.ensures.settled
