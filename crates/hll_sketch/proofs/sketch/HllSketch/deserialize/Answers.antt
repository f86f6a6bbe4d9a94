-- SPDX-License-Identifier: Apache-2.0
use Rattle.std.proofs.Common.{◌≡◌, ◌⊎◌, ◌++◌, List, ℕ, Some, None, inr}
use Rattle.hll_base.proofs.Errors.{IfErr-passed}
use Rattle.hll_base.specs.declared.error.Reason.TheVariants.{Memory}
use Rattle.hll_sketch.specs.Checks.{header_checks, checks_after, first_fault, size_fault}
use Rattle.hll_sketch.specs.Fault.{IsFault}
use Rattle.hll_sketch.specs.Fault as fault
use Rattle.hll_sketch.proofs.FaultKinds.{not_memory}
use Rattle.hll_sketch.proofs.FirstFailing.{failing_before}
use Rattle.hll_sketch.proofs.Refusals.{refusal-err}
use Rattle.hll_sketch.proofs.sketch.HllSketch.deserialize.Goals as goal

pub returns-in_err-header-clause-err : goal.returns-in_err-header-clause-err
returns-in_err-header-clause-err g c =
    IfErr-passed (λ r. (r ≡ Memory) ⊎ IsFault c.args.bytes.now r) c.from_residual.result c.in_err-header.field-0.0 c.from_residual.ensures.1
    (inr (fault.IsFault.header c.in_err-header.ensures.err))

pub returns-in_err-header-clause-order : goal.returns-in_err-header-clause-order
returns-in_err-header-clause-order g c =
    let b : List ℕ = c.args.bytes.now in
    let e = c.in_err-header.field-0.0 in
    IfErr-passed (λ r. (r ≡ Memory) ⊎ (first_fault b ≡ Some r)) c.from_residual.result e c.from_residual.ensures.1
    (inr (failing_before (header_checks b) ((checks_after b).size ++ (checks_after b).content) e c.in_err-header.ensures.order))

pub returns-in_err-header-clause-asked : goal.returns-in_err-header-clause-asked
returns-in_err-header-clause-asked g c =
    let b : List ℕ = c.args.bytes.now in
    IfErr-passed (λ r. r ≡ Memory → size_fault b ≡ None) c.from_residual.result c.in_err-header.field-0.0 c.from_residual.ensures.1
    (λ full. absurd (not_memory b c.in_err-header.field-0.0 c.in_err-header.ensures.err full))

pub returns-clause-err : goal.returns-clause-err
returns-clause-err g c = refusal-err c.args.bytes.now c.read_payload.result c.read_payload.ensures.err
