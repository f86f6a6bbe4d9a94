-- SPDX-License-Identifier: Apache-2.0
use Rattle.std.proofs.Common.{◌≡◌, ◌-◌, ◌%◌, ◌≤◌, length}
use Rattle.hll_kernels.specs.Lanes.{nibble_values}
use Rattle.hll_state.proofs.Parts.{JoinedBelow}
use Rattle.hll_state.proofs.registers.max_with_nibbles.Given as goal

-- the maximum with the nibbles before an index is taken
abbrev pub invariant-loop-at : goal.invariant-loop-at
invariant-loop-at l = JoinedBelow l.at l.initial.elements l.elements (nibble_values l.minimum l.nibbles) × (l.at ≤ length l.initial.elements) × (l.at % 16 ≡ 0)

abbrev pub decreases-loop-at : goal.decreases-loop-at
decreases-loop-at l = length l.initial.elements - l.at
