-- SPDX-License-Identifier: Apache-2.0
use Rattle.std.proofs.Common.{sym, ◌∙◌, ap, subst}
use Rattle.hll_sketch.specs.Fault.{HeaderFault}
use Rattle.hll_sketch.specs.Fault as fault
use Rattle.hll_sketch.specs.Image.{preamble_words}
use Rattle.hll_sketch.specs.Header.{number_of_stage}
use Rattle.hll_base.proofs.Errors.{IfErr-passed}
use Rattle.hll_sketch.proofs.Headers.{failed_test, number_of_stage_of_bits}
use Rattle.hll_sketch.proofs.header.Header.read.Goals as goal

pub returns-in_default-clause-err : goal.returns-in_default-clause-err
returns-in_default-clause-err c = subst (HeaderFault c.args.bytes.now) (sym c.new.ensures) (fault.HeaderFault.short c.in_default.len_below)

pub returns-in_err-validate_id-clause-err : goal.returns-in_err-validate_id-clause-err
returns-in_err-validate_id-clause-err c =
    IfErr-passed (HeaderFault c.args.bytes.now) c.from_residual.result c.in_err-validate_id.field-0.0 c.from_residual.ensures.1
    (subst (HeaderFault c.args.bytes.now) (sym c.in_err-validate_id.ensures.err) (fault.HeaderFault.family c.in-len8-up.len_at_least (failed_test c.in_err-validate_id.ensures.ok)))

pub returns-in_err-check_version-clause-err : goal.returns-in_err-check_version-clause-err
returns-in_err-check_version-clause-err c =
    IfErr-passed (HeaderFault c.args.bytes.now) c.from_residual-in_err-check_version.result c.in_err-check_version.field-0.0 c.from_residual-in_err-check_version.ensures.1
    (subst (HeaderFault c.args.bytes.now) (sym c.in_err-check_version.ensures.err) (fault.HeaderFault.version c.in-len8-up.len_at_least (failed_test c.in_err-check_version.ensures.ok)))

pub returns-in_err-check_lg_k-clause-err : goal.returns-in_err-check_lg_k-clause-err
returns-in_err-check_lg_k-clause-err c =
    IfErr-passed (HeaderFault c.args.bytes.now) c.from_residual-in_err-check_lg_k.result c.in_err-check_lg_k.field-0.0 c.from_residual-in_err-check_lg_k.ensures.1
    (subst (HeaderFault c.args.bytes.now) (sym c.in_err-check_lg_k.ensures.err) (fault.HeaderFault.lg_k c.in-len8-up.len_at_least (failed_test c.in_err-check_lg_k.ensures.ok)))

pub returns-in_err-hll_type-clause-err : goal.returns-in_err-hll_type-clause-err
returns-in_err-hll_type-clause-err c =
    IfErr-passed (HeaderFault c.args.bytes.now) c.from_residual-in_err-hll_type.result c.in_err-hll_type.field-0.0 c.from_residual-in_err-hll_type.ensures.1
    (subst (HeaderFault c.args.bytes.now) (sym c.in_err-hll_type.ensures.err.1) (fault.HeaderFault.width c.in-len8-up.len_at_least c.in_err-hll_type.ensures.err.0))

pub returns-in_err-stage-clause-err : goal.returns-in_err-stage-clause-err
returns-in_err-stage-clause-err c =
    IfErr-passed (HeaderFault c.args.bytes.now) c.from_residual-in_err-stage.result c.in_err-stage.field-0.0 c.from_residual-in_err-stage.ensures.1
    (subst (HeaderFault c.args.bytes.now) (sym c.in_err-stage.ensures.err.1) (fault.HeaderFault.stage c.in-len8-up.len_at_least c.in_err-stage.ensures.err.0))

pub returns-in_err-check_preamble-clause-err : goal.returns-in_err-check_preamble-clause-err
returns-in_err-check_preamble-clause-err c =
    let below = c.in_ok-stage.ensures.ok.0 in
    let same = ap preamble_words (sym (number_of_stage_of_bits _ below)) ∙ ap (λ s. preamble_words (number_of_stage s)) (sym c.in_ok-stage.ensures.ok.1) in
    IfErr-passed (HeaderFault c.args.bytes.now) c.from_residual-in_err-check_preamble.result c.in_err-check_preamble.field-0.0 c.from_residual-in_err-check_preamble.ensures.1
    (subst (HeaderFault c.args.bytes.now) (sym c.in_err-check_preamble.ensures.err)
    (fault.HeaderFault.preamble c.in-len8-up.len_at_least below (λ h. failed_test c.in_err-check_preamble.ensures.ok (h ∙ same))))
