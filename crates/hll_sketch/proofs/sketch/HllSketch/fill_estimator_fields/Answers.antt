-- SPDX-License-Identifier: Apache-2.0
use Rattle.hll_sketch.proofs.SetFields.{own_layout}
use Rattle.hll_sketch.proofs.sketch.HllSketch.fill_estimator_fields.Goals as goal

pub returns-else-has_cleared_state-clause-rest : goal.returns-else-has_cleared_state-clause-rest
returns-else-has_cleared_state-clause-rest g c = own_layout c.args.self.now
