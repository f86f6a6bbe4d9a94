-- SPDX-License-Identifier: Apache-2.0
use Rattle.std.proofs.Common.{◌≡◌, ◌*◌, take}
use Rattle.hll_registers.proofs.same_registers.have_same_registers.Given as goal

-- the blocks so far are the same
abbrev pub invariant-loop-block : goal.invariant-loop-block
invariant-loop-block g l = take (l.block * l.size) (g.R.Registers.stored l.left).registers ≡ take (l.block * l.size) (g.R.Registers.stored l.right).registers
