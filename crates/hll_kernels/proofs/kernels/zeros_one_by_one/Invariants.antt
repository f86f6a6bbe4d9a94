-- SPDX-License-Identifier: Apache-2.0
use Rattle.std.proofs.Common.{◌≡◌, ◌==◌, count_by, take}
use Rattle.hll_kernels.proofs.kernels.zeros_one_by_one.Given as goal

-- the count so far
abbrev pub invariant-loop-byte : goal.invariant-loop-byte
invariant-loop-byte l = l.count ≡ count_by (λ v. v == 0) (take l.byte-index l.bytes)
