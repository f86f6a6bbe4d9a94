-- SPDX-License-Identifier: Apache-2.0
use Rattle.std.proofs.Common.{◌≡◌, ◌*◌, take}
use Rattle.hll_kernels.specs.Lanes.{max_at}
use Rattle.hll_kernels.specs.Packed.{fields}
use Rattle.hll_kernels.proofs.groups.max_with_fields.Given as goal

-- the values of the groups so far are the maximum
abbrev pub invariant-loop-place : goal.invariant-loop-place
invariant-loop-place l = l.values ≡ max_at 0 l.initial.values (fields (take (l.place * 48) l.bytes))
