-- SPDX-License-Identifier: Apache-2.0
use Rattle.std.proofs.Common.{◌≡◌, ◌*◌, take}
use Rattle.std.specs.Simd.Lanes.{put_chunk}
use Rattle.hll_kernels.specs.Lanes.{groups_of}
use Rattle.hll_kernels.proofs.groups.pack_groups_into.Given as goal

-- the groups of the registers so far are written
abbrev pub invariant-loop-place : goal.invariant-loop-place
invariant-loop-place l = l.groups ≡ put_chunk 0 l.initial.groups (groups_of (take (l.place * 16) l.registers))
