-- SPDX-License-Identifier: Apache-2.0
use Rattle.hll_c.specs.Answers.{RefusesInfo}
use Rattle.hll_c.specs.Estimates.{SaysEstimate}
use Rattle.hll_c.proofs.Answers.{reports_of}
use Rattle.hll_c.proofs.hll_estimate.Goals as goal

pub returns : goal.returns
returns c = reports_of (SaysEstimate c.args.image.now) (RefusesInfo (Unit {0}) c.args.image.now) c.estimate_of_image.result c.args.estimate.now c.report.new.place c.report.result c.estimate_of_image.ensures.ok c.estimate_of_image.ensures.err c.report.ensures
