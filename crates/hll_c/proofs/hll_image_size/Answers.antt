-- SPDX-License-Identifier: Apache-2.0
use Rattle.hll_sketch.specs.Image.{IsSizeOfImage}
use Rattle.hll_c.specs.Answers.{RefusesTested}
use Rattle.hll_c.proofs.Answers.{reports_of}
use Rattle.hll_c.proofs.hll_image_size.Goals as goal

pub returns : goal.returns
returns c = reports_of (IsSizeOfImage c.args.image.now) (RefusesTested c.args.image.now) c.size.result c.args.size.now c.report.new.place c.report.result c.size.ensures.ok c.size.ensures.err c.report.ensures
