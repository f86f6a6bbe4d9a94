-- SPDX-License-Identifier: Apache-2.0
use Rattle.std.proofs.Common.{◌≡◌, take}
use Rattle.std.specs.Simd.Lanes.{put_chunk}
use Rattle.hll_kernels.specs.Packed.{lowered_byte, zero_nibbles}
use Rattle.hll_kernels.proofs.nibbles.lower_one_by_one.Given as goal
use mathlib.Core.List.{map}

-- the bytes so far are lowered, and their zero nibbles counted
abbrev pub invariant-loop-place : goal.invariant-loop-place
invariant-loop-place l = record {
  lowered : l.bytes ≡ put_chunk 0 l.initial.bytes (map lowered_byte (take l.place l.initial.bytes));
  zeros : l.zeros ≡ zero_nibbles (map lowered_byte (take l.place l.initial.bytes));
}
