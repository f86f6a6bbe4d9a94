-- SPDX-License-Identifier: Apache-2.0
use Rattle.std.proofs.Common.{◌≡◌, take}
use Rattle.hll_kernels.specs.Packed.{mark_nibbles}
use Rattle.hll_kernels.proofs.nibbles.some_mark_nibbles_in.Given as goal

-- the count so far
abbrev pub invariant-loop-byte : goal.invariant-loop-byte
invariant-loop-byte l = l.count ≡ mark_nibbles (take l.byte-index l.block)
