-- SPDX-License-Identifier: Apache-2.0
use Rattle.std.proofs.Common.{◌≡◌}
use Rattle.hll_c.specs.Answers.{RefusesInfo}
use Rattle.hll_c.specs.Info.{SaysInfo}
use Rattle.hll_c.proofs.Answers.{reports_of}
use Rattle.hll_c.proofs.hll_image_info.Goals as goal

pub returns : goal.returns
returns c = reports_of (SaysInfo c.args.image.now) (RefusesInfo (c.args.size ≡ 64) c.args.image.now) c.info_of.result c.args.info.now c.report.new.place c.report.result c.info_of.ensures.ok c.info_of.ensures.err c.report.ensures
