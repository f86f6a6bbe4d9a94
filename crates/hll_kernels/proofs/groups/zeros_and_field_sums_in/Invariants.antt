-- SPDX-License-Identifier: Apache-2.0
use Rattle.std.proofs.Common.{◌*◌, take}
use Rattle.hll_kernels.specs.Packed.{fields}
use Rattle.hll_kernels.specs.WeightSums.{AreRunningSums}
use Rattle.hll_kernels.specs.ZeroCounts.{AreRunningZeros}
use Rattle.hll_kernels.proofs.groups.zeros_and_field_sums_in.Given as goal

-- the counts so far, and the sums so far
abbrev pub invariant-loop-block : goal.invariant-loop-block
invariant-loop-block l = AreRunningZeros l.zeros (fields (take (l.block-index * 48) l.bytes)) × AreRunningSums l.sums (fields (take (l.block-index * 48) l.bytes))
