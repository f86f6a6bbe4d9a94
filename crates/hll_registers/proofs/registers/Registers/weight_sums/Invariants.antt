-- SPDX-License-Identifier: Apache-2.0
use Rattle.std.proofs.Common.{◌*◌, take}
use Rattle.hll_kernels.specs.WeightSums.{AreSumsOf}
use Rattle.hll_registers.proofs.registers.Registers.weight_sums.Given as goal

-- the sums over the blocks so far
abbrev pub invariant-loop-block : goal.invariant-loop-block
invariant-loop-block g l = AreSumsOf l.sums (take (l.block * l.size) (g.Self.Registers.stored l.self).registers)
