-- SPDX-License-Identifier: Apache-2.0
use Rattle.std.proofs.Common.{ap, ◌∙◌}
use Rattle.hll_base.specs.Reason.{number_of}
use Rattle.hll_c.proofs.Answers.{reports_value, reports_nothing}
use Rattle.hll_c.proofs.answer.report.Goals as goal

pub returns-in-Ok : goal.returns-in-Ok
returns-in-Ok g c = reports_value c.args.found c.in-Ok.value c.args.place.now c.in-Ok.is

pub returns-in-Err : goal.returns-in-Err
returns-in-Err g c = reports_nothing c.args.found c.in-Err.e c.args.place.now c.number.result c.in-Err.is (c.number.ensures ∙ ap number_of c.reason.ensures)
