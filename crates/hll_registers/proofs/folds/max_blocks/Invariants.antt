-- SPDX-License-Identifier: Apache-2.0
use Rattle.std.proofs.Common.{◌≡◌, ◌*◌, ◌^◌}
use Rattle.hll_base.specs.Join.{join}
use Rattle.hll_registers.proofs.Folding.{folded}
use Rattle.hll_registers.proofs.folds.max_blocks.Given as goal

-- the maximum with the blocks so far
abbrev pub invariant-loop-block : goal.invariant-loop-block
invariant-loop-block g l = l.values ≡ join l.initial.values (folded (g.R.Registers.stored l.src).registers l.lg_k (l.block * 2 ^ l.lg_k))
