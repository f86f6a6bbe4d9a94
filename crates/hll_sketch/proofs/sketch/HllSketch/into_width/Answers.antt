-- SPDX-License-Identifier: Apache-2.0
use Rattle.hll_sketch.proofs.sketch.HllSketch.into_width.Goals as goal

pub invariant_of-result : goal.invariant_of-result
invariant_of-result g c = (c.self.invariant.0, c.in_ok-into_width.ensures.layout c.self.inside.lg_config_k c.self.invariant.1)
