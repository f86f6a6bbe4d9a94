-- SPDX-License-Identifier: Apache-2.0
use Rattle.std.proofs.Common.{◌≡◌, ℕ, take}
use Rattle.std.specs.Prelude.{nat_le}
use Rattle.std.specs.List.{list_all}
use Rattle.hll_kernels.proofs.kernels.greatest_one_by_one.Given as goal

-- the greatest so far
abbrev pub invariant-loop-byte : goal.invariant-loop-byte
invariant-loop-byte l = (bound : ℕ) → list_all (λ b. nat_le b bound) (take l.byte-index l.bytes) ≡ nat_le l.greatest bound
