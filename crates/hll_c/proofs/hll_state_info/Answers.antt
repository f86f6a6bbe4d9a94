-- SPDX-License-Identifier: Apache-2.0
use Rattle.std.proofs.Common.{◌≡◌}
use Rattle.hll_c.specs.StateInfo.{SaysStateInfo, RefusesStateInfo}
use Rattle.hll_c.proofs.Answers.{reports_of}
use Rattle.hll_c.proofs.hll_state_info.Goals as goal

pub returns : goal.returns
returns c =
    reports_of (SaysStateInfo c.args.state.now) (RefusesStateInfo (c.args.size ≡ 16) c.args.state.now) c.info_of.result c.args.info.now c.report.new.place c.report.result
    c.info_of.ensures.ok c.info_of.ensures.err c.report.ensures
