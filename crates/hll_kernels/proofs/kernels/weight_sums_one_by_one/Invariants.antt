-- SPDX-License-Identifier: Apache-2.0
use Rattle.std.proofs.Common.{take}
use Rattle.hll_kernels.specs.WeightSums.{AreSumsOf}
use Rattle.hll_kernels.proofs.kernels.weight_sums_one_by_one.Given as goal

-- the sums so far
abbrev pub invariant-loop-value : goal.invariant-loop-value
invariant-loop-value l = AreSumsOf l.sums (take l.value-index l.bytes)
