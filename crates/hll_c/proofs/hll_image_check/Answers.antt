-- SPDX-License-Identifier: Apache-2.0
use Rattle.hll_sketch.specs.Image.{IsReadAs}
use Rattle.hll_sketch.specs.Value.{Sketch}
use Rattle.hll_c.specs.Answers.{RefusesTested}
use Rattle.hll_c.proofs.Answers.{tests_of}
use Rattle.hll_c.proofs.hll_image_check.Goals as goal

pub returns : goal.returns
returns c = tests_of ((x : Sketch) × IsReadAs c.args.image.now x) (RefusesTested c.args.image.now) c.check.result c.code_of.result c.check.ensures.ok c.check.ensures.err c.code_of.ensures
