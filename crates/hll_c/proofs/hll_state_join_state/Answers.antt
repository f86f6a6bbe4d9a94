-- SPDX-License-Identifier: Apache-2.0
use Rattle.hll_c.proofs.Unions.{extends_by_state}
use Rattle.hll_c.proofs.Whole.{leaves_state}
use Rattle.hll_c.proofs.hll_state_join_state.Goals as goal

pub returns-clause-left : goal.returns-clause-left
returns-clause-left c = λ other.
    leaves_state c.args.lg_max_k c.args.other.now c.args.state.now c.join_state.new.state c.args.size.now c.join_state.new.size c.join_state.result other c.join_state.ensures.joined

pub returns-clause-union : goal.returns-clause-union
returns-clause-union c = λ done closed.
    extends_by_state c.args.lg_max_k c.args.other.now c.args.state.now c.join_state.new.state c.args.size.now c.join_state.new.size c.join_state.result c.join_state.ensures.joined done closed
