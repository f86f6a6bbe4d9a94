-- SPDX-License-Identifier: Apache-2.0
use Rattle.hll_c.specs.Answers.{RefusesImage}
use Rattle.hll_c.specs.Info.{SaysHistogram}
use Rattle.hll_c.proofs.Answers.{reports_of}
use Rattle.hll_c.proofs.hll_image_histogram.Goals as goal

pub returns : goal.returns
returns c = reports_of (SaysHistogram c.args.image.now) (RefusesImage c.args.image.now) c.histogram_of.result c.args.histogram.now c.report.new.place c.report.result c.histogram_of.ensures.ok c.histogram_of.ensures.err c.report.ensures
