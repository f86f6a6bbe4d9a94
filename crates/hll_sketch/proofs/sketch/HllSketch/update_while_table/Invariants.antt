-- SPDX-License-Identifier: Apache-2.0
use Rattle.std.proofs.Common.{◌≡◌, take}
use Rattle.hll_sketch.specs.Laws.{add_in_turn}
use Rattle.hll_sketch.specs.Layout.{sketch_of}
use Rattle.hll_sketch.proofs.sketch.HllSketch.update_while_table.Given as goal

-- the coupons so far are added
abbrev pub invariant-loop-index : goal.invariant-loop-index
invariant-loop-index g l = sketch_of l.self ≡ add_in_turn (sketch_of l.fn.self) (take l.index l.raw_coupons)
