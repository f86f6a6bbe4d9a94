-- SPDX-License-Identifier: Apache-2.0
use Rattle.std.proofs.Common.{◌≡◌, ℕ, ◌*◌, take}
use Rattle.std.specs.Prelude.{nat_le}
use Rattle.std.specs.List.{list_all}
use Rattle.hll_kernels.specs.ZeroCounts.{AreRunningZeros}
use Rattle.hll_kernels.proofs.kernels.zeros_and_greatest_in.Given as goal

-- the counts, and the greatest of each lane, so far
abbrev pub invariant-loop-block : goal.invariant-loop-block
invariant-loop-block l =
    AreRunningZeros l.zeros (take (l.block-index * 64) l.bytes)
    × ((bound : ℕ) → list_all (λ b. nat_le b bound) (take (l.block-index * 64) l.bytes) ≡ list_all (λ b. nat_le b bound) l.lanes)
