-- SPDX-License-Identifier: Apache-2.0
use Rattle.hll_state.proofs.Values.{values-set}
use Rattle.hll_state.proofs.registers.set.Goals as goal

pub returns : goal.returns
returns c = values-set c.args.elements.now c.args.slot c.args.register c.told-elements c.requires
