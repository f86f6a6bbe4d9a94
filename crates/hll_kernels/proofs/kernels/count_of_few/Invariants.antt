-- SPDX-License-Identifier: Apache-2.0
use Rattle.std.proofs.Common.{◌≡◌, ◌==◌, count_by, take}
use Rattle.hll_kernels.proofs.kernels.count_of_few.Given as goal

-- the count so far
abbrev pub invariant-loop-byte : goal.invariant-loop-byte
invariant-loop-byte l = l.count ≡ count_by (λ v. v == l.value) (take l.byte-index l.bytes)
