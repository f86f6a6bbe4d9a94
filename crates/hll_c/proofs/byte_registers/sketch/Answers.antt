-- SPDX-License-Identifier: Apache-2.0
use Rattle.std.proofs.Common.{sym, subst}
use Rattle.std.proofs.lemmas.Result.{IfOk-weaker, IfErr-weaker}
use Rattle.hll_base.proofs.Errors.{IfErr-passed}
use Rattle.hll_base.specs.declared.error.Reason.{Reason}
use Rattle.std.proofs.Common.{ℕ, List}
use Rattle.hll_sketch.specs.Layout.{sketch_of}
use Rattle.hll_c.specs.ByteRegisters.{IsOfBytes, RefusesRegisters, RefusesBytes, no_lg_k, above_63, bytes_argument, bytes_register, bytes_memory}
use Rattle.hll_c.specs.Calls.{IsWidth}
use Rattle.hll_c.proofs.byte_registers.sketch.Goals as goal

-- registers that are rejected have no image
refuses_bytes : (bits : ℕ) (R : List ℕ) (r : Reason) → IsWidth bits → RefusesRegisters R r → RefusesBytes bits R r
refuses_bytes bits R _ width (no_lg_k none) = bytes_argument (λ are. none are.kept)
refuses_bytes bits R _ width (above_63 of above) = bytes_register of width above

pub returns-in_err-width-clause-err : goal.returns-in_err-width-clause-err
returns-in_err-width-clause-err c =
    let e = c.in_err-width in
    IfErr-passed (RefusesBytes c.args.width c.args.registers.now) c.from_residual.result e.field-0.0 c.from_residual.ensures.1
    (subst (RefusesBytes c.args.width c.args.registers.now) (sym e.ensures.outside.0) (bytes_argument (λ are. e.ensures.outside.1 are.width_is)))

pub returns-in_err-lg_k-clause-err : goal.returns-in_err-lg_k-clause-err
returns-in_err-lg_k-clause-err c =
    let e = c.in_err-lg_k in
    IfErr-passed (RefusesBytes c.args.width c.args.registers.now) c.from_residual-in_err-lg_k.result e.field-0.0 c.from_residual-in_err-lg_k.ensures.1
    (refuses_bytes c.args.width c.args.registers.now e.field-0.0 (record { width = c.in_ok-width.width; is = c.in_ok-width.ensures.ok }) e.ensures.err)

pub returns-clause-ok : goal.returns-clause-ok
returns-clause-ok c =
    IfOk-weaker c.sketch_in_registers.result _ (λ s. IsOfBytes c.args.width c.args.registers.now (sketch_of s))
    (λ s is. record { lg_k = c.in_ok-lg_k.lg_k; of = c.in_ok-lg_k.ensures.ok.0; width_is = record { width = c.in_ok-width.width; is = c.in_ok-width.ensures.ok }; are = c.in_ok-lg_k.ensures.ok.1; is = is })
    c.sketch_in_registers.ensures.ok

pub returns-clause-err : goal.returns-clause-err
returns-clause-err c =
    IfErr-weaker c.sketch_in_registers.result _ (RefusesBytes c.args.width c.args.registers.now)
    (λ e memory. subst (RefusesBytes c.args.width c.args.registers.now) (sym memory)
    (bytes_memory c.in_ok-lg_k.ensures.ok.0 (record { width = c.in_ok-width.width; is = c.in_ok-width.ensures.ok }) c.in_ok-lg_k.ensures.ok.1)) c.sketch_in_registers.ensures.err
