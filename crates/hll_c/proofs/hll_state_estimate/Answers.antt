-- SPDX-License-Identifier: Apache-2.0
use Rattle.std.proofs.Common.{◌≢◌}
use Rattle.hll_base.specs.declared.error.Reason.TheVariants.{Memory}
use Rattle.hll_c.specs.States.{SaysEstimateOfState, RefusesEstimateOfState, RefusesState}
use Rattle.hll_state.specs.Memory.{IsSettled}
use Rattle.hll_c.proofs.Codes.{if_reported}
use Rattle.hll_c.proofs.Answers.{reports_of, IfErr-both}
use Rattle.hll_c.proofs.hll_state_estimate.Goals as goal

pub returns-clause-estimate : goal.returns-clause-estimate
returns-clause-estimate c =
    reports_of (SaysEstimateOfState c.args.state.now) (RefusesEstimateOfState c.args.state.now) c.estimate_of.result c.args.estimate.now c.report.new.place c.report.result
    c.estimate_of.ensures.ok (IfErr-both c.estimate_of.result (RefusesState (Unit {0}) c.args.state.now) (λ e. e ≢ Memory) c.estimate_of.ensures.err c.estimate_of.ensures.needless) c.report.ensures

pub returns-clause-settled : goal.returns-clause-settled
returns-clause-settled c = if_reported c.estimate_of.result (IsSettled c.estimate_of.new.state) c.args.estimate.now c.report.new.place c.report.result c.report.ensures c.estimate_of.ensures.settled
