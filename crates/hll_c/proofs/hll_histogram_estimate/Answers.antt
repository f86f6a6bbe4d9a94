-- SPDX-License-Identifier: Apache-2.0
use Rattle.hll_c.specs.Estimates.{SaysEstimateOfCounts, RefusesCounts}
use Rattle.hll_c.proofs.Answers.{reports_of}
use Rattle.hll_c.proofs.hll_histogram_estimate.Goals as goal

pub returns : goal.returns
returns c = reports_of (SaysEstimateOfCounts c.args.histogram.now.counts) (RefusesCounts c.args.histogram.now.counts) c.estimate_of_counts.result c.args.estimate.now c.report.new.place c.report.result c.estimate_of_counts.ensures.ok c.estimate_of_counts.ensures.err c.report.ensures
