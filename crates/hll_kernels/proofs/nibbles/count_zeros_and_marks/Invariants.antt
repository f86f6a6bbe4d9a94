-- SPDX-License-Identifier: Apache-2.0
use Rattle.std.proofs.Common.{◌≡◌, ◌*◌, take}
use Rattle.hll_kernels.specs.Packed.{mark_nibbles, zero_nibbles}
use Rattle.hll_kernels.proofs.nibbles.count_zeros_and_marks.Given as goal

-- the counts so far
abbrev pub invariant-loop-block : goal.invariant-loop-block
invariant-loop-block l = record {
  zeros : l.zeros ≡ zero_nibbles (take (l.block-index * 64) l.bytes);
  marks : l.marks ≡ mark_nibbles (take (l.block-index * 64) l.bytes);
}
