-- SPDX-License-Identifier: Apache-2.0
use Rattle.std.proofs.Common.{◌≡◌, ℕ, ◌*◌, ◌-◌, ◌%◌, ◌≤◌, length, take}
use Rattle.std.specs.Prelude.{nat_le}
use Rattle.std.specs.List.{list_all}
use Rattle.hll_state.proofs.Parts.{JoinedBelow}
use Rattle.hll_state.proofs.registers.max_with_bytes.Given as goal

-- the maximum with the bytes before an index is taken, and the greatest of each lane so far is known
abbrev pub invariant-loop-at : goal.invariant-loop-at
invariant-loop-at l = JoinedBelow l.at l.initial.elements l.elements l.bytes × (l.at ≤ length l.initial.elements) × (l.at % 16 ≡ 0)
    × ((bound : ℕ) → list_all (λ b. nat_le b bound) (take (4 * l.at) l.bytes) ≡ list_all (λ b. nat_le b bound) l.greatest) × (length l.greatest ≡ 64)

abbrev pub decreases-loop-at : goal.decreases-loop-at
decreases-loop-at l = length l.initial.elements - l.at
