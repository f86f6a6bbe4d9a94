-- SPDX-License-Identifier: Apache-2.0
use Rattle.std.proofs.Common.{◌≡◌, ◌*◌, ◌==◌, count_by, take}
use Rattle.hll_kernels.proofs.kernels.count_zeros.Given as goal

-- the count so far
abbrev pub invariant-loop-part : goal.invariant-loop-part
invariant-loop-part l = l.count ≡ count_by (λ v. v == 0) (take (l.part-index * 8192) l.bytes)
