-- SPDX-License-Identifier: Apache-2.0
use Rattle.hll_c.specs.Answers.{WithFields}
use Rattle.hll_c.specs.Calls.{IsWidth}
use Rattle.hll_c.specs.States.{IsOfState, RefusesState}
use Rattle.hll_state.specs.Memory.{IsSettled}
use Rattle.hll_c.proofs.Answers.{answers_with}
use Rattle.hll_c.proofs.hll_state_settled_image.Goals as goal

pub returns : goal.returns
returns c =
    answers_with (λ v. v.items) c.image_of_settled.result (WithFields (IsOfState c.args.width c.args.state.now)) (RefusesState (IsWidth c.args.width × IsSettled c.args.state.now) c.args.state.now)
    c.args.out.now c.put_bytes.new.out c.args.size.now c.put_bytes.new.size c.put_bytes.result c.image_of_settled.ensures.ok c.image_of_settled.ensures.err c.put_bytes.ensures
