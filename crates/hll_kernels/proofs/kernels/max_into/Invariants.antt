-- SPDX-License-Identifier: Apache-2.0
use Rattle.std.proofs.Common.{◌≡◌, ◌*◌, take}
use Rattle.hll_kernels.specs.Lanes.{max_at}
use Rattle.hll_kernels.proofs.kernels.max_into.Given as goal

-- the bytes of the blocks so far are the maximum
abbrev pub invariant-loop-place : goal.invariant-loop-place
invariant-loop-place l = l.dst ≡ max_at 0 l.initial.dst (take (l.place * 64) l.src)
