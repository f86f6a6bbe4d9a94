-- SPDX-License-Identifier: Apache-2.0
use Rattle.std.proofs.Common.{◌*◌, take}
use Rattle.hll_kernels.specs.Packed.{fields}
use Rattle.hll_kernels.specs.ZeroCounts.{AreRunningZeros}
use Rattle.hll_kernels.proofs.groups.zero_fields_in.Given as goal

-- the counts so far
abbrev pub invariant-loop-block : goal.invariant-loop-block
invariant-loop-block l = AreRunningZeros l.zeros (fields (take (l.block-index * 48) l.bytes))
