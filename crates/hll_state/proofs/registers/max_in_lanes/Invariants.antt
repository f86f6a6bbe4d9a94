-- SPDX-License-Identifier: Apache-2.0
use Rattle.std.proofs.Common.{◌≡◌, ◌*◌, ◌^◌}
use Rattle.hll_base.specs.Join.{join}
use Rattle.hll_registers.proofs.Folding.{folded}
use Rattle.hll_state.specs.Registers.{values}
use Rattle.hll_state.proofs.registers.max_in_lanes.Given as goal

-- the maximum with the blocks so far is taken
abbrev pub invariant-loop-block : goal.invariant-loop-block
invariant-loop-block g l = values l.elements ≡ join (values l.initial.elements) (folded (g.R.Registers.stored l.src).registers l.lg_k (l.block * 2 ^ l.lg_k))
