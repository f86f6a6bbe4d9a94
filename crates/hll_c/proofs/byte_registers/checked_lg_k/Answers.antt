-- SPDX-License-Identifier: Apache-2.0
use Rattle.std.proofs.Common.{sym, subst}
use Rattle.hll_base.proofs.Errors.{IfErr-passed}
use Rattle.hll_kernels.specs.Packed.{AreRegisters}
use Rattle.hll_c.specs.ByteRegisters.{RefusesRegisters, no_lg_k, above_63}
use Rattle.hll_c.proofs.Answers.{not_so}
use Rattle.hll_c.proofs.byte_registers.checked_lg_k.Goals as goal

pub returns-in_err-lg_k-clause-err : goal.returns-in_err-lg_k-clause-err
returns-in_err-lg_k-clause-err c =
    let e = c.in_err-lg_k in
    IfErr-passed (RefusesRegisters c.args.registers.now) c.from_residual.result e.field-0.0 c.from_residual.ensures.1
    (subst (RefusesRegisters c.args.registers.now) (sym e.ensures.err.0) (no_lg_k e.ensures.err.1))

pub returns-then-not-are_small-clause-err : goal.returns-then-not-are_small-clause-err
returns-then-not-are_small-clause-err c =
    subst (RefusesRegisters c.args.registers.now) (sym c.new.ensures)
    (above_63 c.in_ok-lg_k.ensures.ok (not_so c.are_small.result (AreRegisters c.in_ok-lg_k.lg_k c.args.registers.now) c.if-not-are_small.true c.are_small.ensures))
