-- SPDX-License-Identifier: Apache-2.0
use Rattle.std.proofs.Common.{subst}
use Rattle.hll_sketch.specs.EstimatorFields.{AreFieldsIn}
use Rattle.hll_sketch.specs.Layout.{content_in}
use Rattle.hll_sketch.proofs.SetFields.{same_layout}
use Rattle.hll_sketch.proofs.sketch.HllSketch.set_estimator_fields.Goals as goal

pub returns-in_default-clause-rest : goal.returns-in_default-clause-rest
returns-in_default-clause-rest g c = same_layout c.args.self.now (subst (AreFieldsIn (content_in c.args.self.now.layout)) c.in_default.is c.estimator_fields.ensures)
