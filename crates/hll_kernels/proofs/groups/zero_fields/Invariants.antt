-- SPDX-License-Identifier: Apache-2.0
use Rattle.std.proofs.Common.{◌≡◌, ◌*◌, take}
use Rattle.hll_kernels.specs.Packed.{zeros, fields}
use Rattle.hll_kernels.proofs.groups.zero_fields.Given as goal

-- the count so far
abbrev pub invariant-loop-part : goal.invariant-loop-part
invariant-loop-part l = l.count ≡ zeros (fields (take (l.part-index * 6144) l.bytes))
