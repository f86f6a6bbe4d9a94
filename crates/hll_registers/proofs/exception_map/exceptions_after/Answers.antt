-- SPDX-License-Identifier: Apache-2.0
use Rattle.hll_registers.specs.FourBits.{unboxed}
use Rattle.hll_registers.proofs.FourBitChanges.{stays_above}
use Rattle.hll_registers.proofs.exception_map.exceptions_after.Goals as goal

pub returns-then-keeps_all_exceptions-clause-values : goal.returns-then-keeps_all_exceptions-clause-values
returns-then-keeps_all_exceptions-clause-values g c =
    stays_above (unboxed c.args.map.now) c.args.rise.slot c.args.rise.value c.args.rise.to c.requires.none (c.keeps_all_exceptions.ensures.value c.if-keeps_all_exceptions.true) (c.keeps_all_exceptions.ensures.all c.if-keeps_all_exceptions.true)
