-- SPDX-License-Identifier: Apache-2.0
use Rattle.std.proofs.Common.{ap, ◌∙◌}
use Rattle.hll_base.specs.Reason.{number_of}
use Rattle.hll_c.proofs.Answers.{puts_of, puts_nothing}
use Rattle.hll_c.proofs.answer.put_bytes.Goals as goal

pub returns-in-Ok : goal.returns-in-Ok
returns-in-Ok c = puts_of (λ v. v.items) c.args.image c.in-Ok.image _ c.args.out.now _ c.args.size.now _ _ c.in-Ok.is c.deref.ensures.value c.put_slice.ensures

pub returns-in-Err : goal.returns-in-Err
returns-in-Err c = puts_nothing (λ v. v.items) c.args.image c.in-Err.e c.args.out.now c.args.size.now c.number.result c.in-Err.is (c.number.ensures ∙ ap number_of c.reason.ensures)
