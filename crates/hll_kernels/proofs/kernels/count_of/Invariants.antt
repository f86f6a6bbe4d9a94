-- SPDX-License-Identifier: Apache-2.0
use Rattle.std.proofs.Common.{◌≡◌, ◌*◌, ◌==◌, count_by, take}
use Rattle.hll_kernels.proofs.kernels.count_of.Given as goal

-- the count so far
abbrev pub invariant-loop-block : goal.invariant-loop-block
invariant-loop-block l = l.count ≡ count_by (λ v. v == l.value) (take (l.block-index * 64) l.bytes)
