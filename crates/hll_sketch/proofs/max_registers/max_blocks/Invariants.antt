-- SPDX-License-Identifier: Apache-2.0
use Rattle.std.proofs.Common.{◌≡◌, ◌+◌, ◌*◌, ◌^◌, ◌++◌}
use Rattle.hll_registers.proofs.Folding.{folded}
use Rattle.hll_sketch.proofs.max_registers.max_blocks.Given as goal

-- the first block and the blocks so far are folded
abbrev pub invariant-loop-block : goal.invariant-loop-block
invariant-loop-block l = l.front ≡ folded (l.fn.front ++ l.after) l.fn.to ((l.block + 1) * 2 ^ l.fn.to)
