-- SPDX-License-Identifier: Apache-2.0
use Rattle.std.proofs.Common.{[], ◌∷◌, ap, ◌∙◌}
use Rattle.hll_coupons.specs.Pair.{set_of}
use Rattle.hll_sketch.specs.Adding.{add}
use Rattle.hll_sketch.specs.Layout.{sketch_of}
use Rattle.hll_sketch.proofs.Turns.{one_more_in_turn}
use Rattle.hll_sketch.proofs.sketch.HllSketch.update_while_table.Goals as goal

pub loop-index-preserved : goal.loop-index-preserved
loop-index-preserved g c =
    one_more_in_turn (sketch_of c.args.self.now) (sketch_of c.loop-index.self) (sketch_of c.update_table.new.self) c.args.raw_coupons.now c.loop-index.index c.loop-index-test.true c.loop-index.invariant
    (c.in_ok-update_table.ensures.ok ∙ ap (λ raw. add (sketch_of c.loop-index.self) (set_of (raw ∷ []))) c.from_raw.ensures)
