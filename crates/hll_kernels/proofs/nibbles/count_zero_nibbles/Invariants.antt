-- SPDX-License-Identifier: Apache-2.0
use Rattle.std.proofs.Common.{◌≡◌, ◌*◌, take}
use Rattle.hll_kernels.specs.Packed.{zero_nibbles}
use Rattle.hll_kernels.proofs.nibbles.count_zero_nibbles.Given as goal

-- the count so far
abbrev pub invariant-loop-block : goal.invariant-loop-block
invariant-loop-block l = l.count ≡ zero_nibbles (take (l.block-index * 64) l.bytes)
