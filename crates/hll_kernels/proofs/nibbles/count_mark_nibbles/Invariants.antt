-- SPDX-License-Identifier: Apache-2.0
use Rattle.std.proofs.Common.{◌≡◌, ◌*◌, take}
use Rattle.hll_kernels.specs.Packed.{mark_nibbles}
use Rattle.hll_kernels.proofs.nibbles.count_mark_nibbles.Given as goal

-- the count so far
abbrev pub invariant-loop-block : goal.invariant-loop-block
invariant-loop-block l = l.count ≡ mark_nibbles (take (l.block-index * 64) l.bytes)
