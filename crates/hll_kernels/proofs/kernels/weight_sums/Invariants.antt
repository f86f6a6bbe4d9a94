-- SPDX-License-Identifier: Apache-2.0
use Rattle.std.proofs.Common.{◌*◌, take}
use Rattle.hll_kernels.specs.WeightSums.{AreRunningSums}
use Rattle.hll_kernels.proofs.kernels.weight_sums.Given as goal

-- the sums so far
abbrev pub invariant-loop-block : goal.invariant-loop-block
invariant-loop-block l = AreRunningSums l.sums (take (l.block-index * 64) l.bytes)
