-- SPDX-License-Identifier: Apache-2.0
use Rattle.hll_registers.specs.Store.{Stored}
use Rattle.hll_registers.proofs.Reading.{take-raised_zeros}
use Rattle.hll_registers.proofs.SameRegisters.{tested}
use Rattle.hll_registers.proofs.same_registers.have_same_block.Goals as goal

pub returns : goal.returns
returns g c =
    let x : Stored = g.R.Registers.stored c.args.left.now in
    let y : Stored = g.R.Registers.stored c.args.right.now in
    tested c.eq.result _ _ _ _ c.eq.ensures
    (take-raised_zeros x.lg_k 16384 c.args.first c.args.size x.registers _ _ c.requires.left.registers c.requires.within c.requires.few c.max_into.ensures)
    (take-raised_zeros y.lg_k 16384 c.args.first c.args.size y.registers _ _ c.requires.right.registers c.requires.others c.requires.few c.max_into-2.ensures)
