-- SPDX-License-Identifier: Apache-2.0
use Rattle.std.proofs.Common.{ap, ◌∙◌}
use Rattle.hll_base.specs.Reason.{number_of}
use Rattle.hll_c.proofs.Answers.{tests_passed, tests_failed}
use Rattle.hll_c.proofs.answer.code_of.Goals as goal

pub returns-in-Ok : goal.returns-in-Ok
returns-in-Ok c = tests_passed c.args.answer c.in-Ok.field-0 c.in-Ok.is

pub returns-in-Err : goal.returns-in-Err
returns-in-Err c = tests_failed c.args.answer c.in-Err.e c.number.result c.in-Err.is (c.number.ensures ∙ ap number_of c.reason.ensures)
