-- SPDX-License-Identifier: Apache-2.0
use Rattle.std.proofs.Common.{◌≡◌, false, Some, refl}
use Rattle.hll_caller.proofs.Refusals.{refused_by_text}
use Rattle.hll_caller.proofs.run_in_memory.Goals as goal
use Rattle.hll_caller.proofs.run_in_memory.Goals.{then-failed, else-failed}

pub returns-clause-err : goal.returns-clause-err
returns-clause-err g c =
    let failed = c.failed.ensures in
    let neither = c.if-failed-2.false in
    let is : Some c.new-reader.result.inner.now ≡ Some c.args.plan.now = rw c.new-reader.ensures refl in
    let reader : c.run.new.reader.failed ≡ false = elim c.if-failed.branch [ then-failed w ↦ cc | else-failed w ↦ cc ] in
    let writer : c.run.new.writer.failed ≡ false = elim c.if-failed.branch [ then-failed w ↦ cc | else-failed w ↦ cc ] in
    refused_by_text _ c.args.plan.now c.in-Err-run.e is reader writer c.in-Err-run.ensures
