-- SPDX-License-Identifier: Apache-2.0
use Rattle.std.proofs.Common.{◌≡◌, ◌*◌, take}
use Rattle.hll_kernels.specs.Lanes.{max_at, nibble_values}
use Rattle.hll_kernels.proofs.nibbles.max_with_nibbles.Given as goal

-- the values of the bytes so far are the maximum
abbrev pub invariant-loop-place : goal.invariant-loop-place
invariant-loop-place l = l.values ≡ max_at 0 l.initial.values (nibble_values l.minimum (take (l.place * 32) l.bytes))
