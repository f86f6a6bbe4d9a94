-- SPDX-License-Identifier: Apache-2.0
use Rattle.std.proofs.Common.{◌-◌, length}
use Rattle.hll_state.specs.Registers.{values}
use Rattle.hll_state.proofs.Parts.{JoinedBelow}
use Rattle.hll_state.proofs.registers.max_elements.Given as goal

-- the maximum with the elements before an index is taken
abbrev pub invariant-loop-at : goal.invariant-loop-at
invariant-loop-at l = JoinedBelow l.at l.initial.elements l.elements (values l.others)

abbrev pub decreases-loop-at : goal.decreases-loop-at
decreases-loop-at l = length l.initial.elements - l.at
