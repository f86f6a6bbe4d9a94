-- SPDX-License-Identifier: Apache-2.0
use Rattle.std.proofs.Common.{◌≡◌, ℕ, ◌*◌, ◌==◌, count_by, take}
use Rattle.std.specs.Prelude.{nat_le}
use Rattle.std.specs.List.{list_all}
use Rattle.hll_kernels.proofs.kernels.zeros_and_greatest.Given as goal

-- the count, and the greatest byte, so far
abbrev pub invariant-loop-part : goal.invariant-loop-part
invariant-loop-part l =
    (l.count ≡ count_by (λ v. v == 0) (take (l.part-index * 8192) l.bytes))
    × ((bound : ℕ) → list_all (λ b. nat_le b bound) (take (l.part-index * 8192) l.bytes) ≡ nat_le l.greatest bound)
