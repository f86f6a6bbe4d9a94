-- SPDX-License-Identifier: Apache-2.0
use Rattle.std.proofs.Common.{◌≡◌, ◌*◌, take}
use Rattle.hll_kernels.specs.Packed.{zeros, fields}
use Rattle.hll_kernels.specs.WeightSums.{AreSumsOf}
use Rattle.hll_kernels.proofs.groups.zeros_and_field_sums.Given as goal

-- the count so far, and the sums so far
abbrev pub invariant-loop-part : goal.invariant-loop-part
invariant-loop-part l = (l.count ≡ zeros (fields (take (l.part-index * 6144) l.bytes))) × AreSumsOf l.sums (fields (take (l.part-index * 6144) l.bytes))
