-- SPDX-License-Identifier: Apache-2.0
use Rattle.std.proofs.Common.{◌/◌, length, ap, ◌∙◌, arith}
use Rattle.hll_state.specs.Registers.{values}
use Rattle.hll_state.proofs.Parts.{values-chunks}
use Rattle.hll_state.proofs.registers.write_64.Goals as goal

pub returns-in-Some-as_mut_array : goal.returns-in-Some-as_mut_array
returns-in-Some-as_mut_array c =
    ap values (c.in-Some.ensures.cases.same ∙ c.as_chunks.ensures.front)
    ∙ values-chunks (length c.args.registers.now / 4) c.args.registers.now (omega (arith, c.told-registers))
