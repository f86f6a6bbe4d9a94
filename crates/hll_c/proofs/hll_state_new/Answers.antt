-- SPDX-License-Identifier: Apache-2.0
use Rattle.hll_c.proofs.Unions.{made_union}
use Rattle.hll_c.proofs.Whole.{made_whole}
use Rattle.hll_c.proofs.hll_state_new.Goals as goal

pub returns-clause-left : goal.returns-clause-left
returns-clause-left c = λ done. made_whole c.args.lg_k c.args.state.now c.new.new.state c.new.result c.new.ensures done

pub returns-clause-union : goal.returns-clause-union
returns-clause-union c = λ done is. made_union c.args.lg_k c.args.state.now c.new.new.state c.new.result c.new.ensures done is
