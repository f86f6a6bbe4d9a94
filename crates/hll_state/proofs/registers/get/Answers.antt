-- SPDX-License-Identifier: Apache-2.0
use Rattle.hll_state.proofs.Values.{get_or-values}
use Rattle.hll_state.proofs.registers.get.Goals as goal

pub returns : goal.returns
returns c = get_or-values c.args.elements.now c.args.slot c.told-elements c.requires
