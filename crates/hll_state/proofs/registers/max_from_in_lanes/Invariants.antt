-- SPDX-License-Identifier: Apache-2.0
use Rattle.std.proofs.Common.{◌*◌, ◌-◌, ◌≤◌, drop, length, take}
use Rattle.hll_state.proofs.Parts.{JoinedBelow}
use Rattle.hll_state.proofs.registers.max_from_in_lanes.Given as goal

-- the maximum with the elements before an index is taken
abbrev pub invariant-loop-at : goal.invariant-loop-at
invariant-loop-at g l =
    JoinedBelow l.at l.initial.elements l.elements (take (4 * length l.initial.elements) (drop l.first (g.R.Registers.stored l.src).registers)) × (l.at ≤ length l.initial.elements)

abbrev pub decreases-loop-at : goal.decreases-loop-at
decreases-loop-at g l = length l.initial.elements - l.at
