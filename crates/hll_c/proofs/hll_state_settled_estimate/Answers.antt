-- SPDX-License-Identifier: Apache-2.0
use Rattle.hll_c.specs.States.{SaysEstimateOfState, RefusesEstimateOfSettled}
use Rattle.hll_c.proofs.Answers.{reports_of, IfErr-both}
use Rattle.hll_c.proofs.hll_state_settled_estimate.Goals as goal

pub returns : goal.returns
returns c =
    reports_of (SaysEstimateOfState c.args.state.now) (RefusesEstimateOfSettled c.args.state.now) c.estimate_of_settled.result c.args.estimate.now c.report.new.place c.report.result
    c.estimate_of_settled.ensures.ok (IfErr-both c.estimate_of_settled.result _ _ c.estimate_of_settled.ensures.err c.estimate_of_settled.ensures.needless) c.report.ensures
