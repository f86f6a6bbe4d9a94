-- SPDX-License-Identifier: Apache-2.0
use Rattle.hll_sketch.specs.Layout.{sketch_of}
use Rattle.hll_sketch.proofs.ImagesOfCoupons.{coupons_by_stage}
use Rattle.hll_sketch.proofs.borrowed_image.read_coupons.Goals as goal

pub returns-clause-table : goal.returns-clause-table
returns-clause-table g c = coupons_by_stage c.args.image.now (sketch_of c.in_ok-sketch.sketch) c.in_ok-sketch.ensures.ok c.requires.stage
