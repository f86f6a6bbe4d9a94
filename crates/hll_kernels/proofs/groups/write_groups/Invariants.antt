-- SPDX-License-Identifier: Apache-2.0
use Rattle.std.proofs.Common.{◌≡◌, ◌*◌, take}
use Rattle.std.specs.List.{flat_map}
use Rattle.std.specs.Simd.Lanes.{put_chunk}
use Rattle.hll_kernels.specs.Lanes.{groups_of}
use Rattle.hll_kernels.proofs.groups.write_groups.Given as goal

-- the groups of the registers so far are written
abbrev pub invariant-loop-place : goal.invariant-loop-place
invariant-loop-place l = l.bytes ≡ put_chunk 0 l.initial.bytes (flat_map (λ g. g) (groups_of (take (l.place * 16) l.registers)))
