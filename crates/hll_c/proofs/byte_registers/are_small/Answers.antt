-- SPDX-License-Identifier: Apache-2.0
use Rattle.std.proofs.Common.{sym, ◌∙◌}
use Rattle.hll_arrays.proofs.ReadingRegisters.{small-from, small-to}
use Rattle.hll_c.proofs.byte_registers.are_small.Goals as goal

pub returns : goal.returns
returns c = (
  λ is. record { size = c.requires.size; small = small-from c.args.registers.now (c.greatest_of.ensures 63 ∙ is) },
  λ are. sym (c.greatest_of.ensures 63) ∙ small-to c.args.registers.now are.small,
)
