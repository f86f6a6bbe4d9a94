-- SPDX-License-Identifier: Apache-2.0
use Rattle.std.proofs.Common.{◌*◌, take}
use Rattle.hll_kernels.specs.Packed.{fields}
use Rattle.hll_kernels.specs.WeightSums.{AreRunningSums}
use Rattle.hll_kernels.proofs.groups.field_sums.Given as goal

-- the sums so far
abbrev pub invariant-loop-block : goal.invariant-loop-block
invariant-loop-block l = AreRunningSums l.sums (fields (take (l.block-index * 48) l.bytes))
