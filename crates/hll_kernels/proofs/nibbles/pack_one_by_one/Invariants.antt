-- SPDX-License-Identifier: Apache-2.0
use Rattle.std.proofs.Common.{◌≡◌, ◌*◌, take}
use Rattle.std.specs.Simd.Lanes.{put_chunk}
use Rattle.hll_kernels.specs.Packed.{nibble_bytes_above}
use Rattle.hll_kernels.proofs.nibbles.pack_one_by_one.Given as goal

-- the bytes of the registers so far are written
abbrev pub invariant-loop-place : goal.invariant-loop-place
invariant-loop-place l = l.bytes ≡ put_chunk 0 l.initial.bytes (nibble_bytes_above l.minimum (take (l.place * 2) l.registers))
