-- SPDX-License-Identifier: Apache-2.0
use Rattle.hll_state.proofs.Moving.{moved_is_state, asked_is_enough, asked_is_enough_to_join}
use Rattle.hll_state.proofs.Prefixes.{prefix_is_state, longer_is_state}
use Rattle.hll_state.proofs.laws.memory.Goals as goal

pub returns : goal.returns
returns c = record { prefix = prefix_is_state; longer = longer_is_state; moved = moved_is_state; asked = asked_is_enough; asked_to_join = asked_is_enough_to_join }
