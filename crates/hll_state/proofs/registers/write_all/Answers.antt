-- SPDX-License-Identifier: Apache-2.0
use Rattle.std.proofs.Common.{◌/◌, length, ap, ◌∙◌, arith}
use Rattle.hll_state.specs.Registers.{values}
use Rattle.hll_state.proofs.Parts.{values-chunks}
use Rattle.hll_state.proofs.registers.write_all.Goals as goal

pub returns : goal.returns
returns c =
    ap values (c.copy_from_slice.ensures.after ∙ c.as_chunks.ensures.front)
    ∙ values-chunks (length c.args.registers.now / 4) c.args.registers.now (omega (arith, c.requires))
