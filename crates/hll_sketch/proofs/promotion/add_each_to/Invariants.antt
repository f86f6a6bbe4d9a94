-- SPDX-License-Identifier: Apache-2.0
use Rattle.std.proofs.Common.{◌≡◌}
use Rattle.hll_sketch.specs.Laws.{add_in_turn}
use Rattle.hll_sketch.specs.Union.{sketch_of_registers}
use Rattle.hll_sketch.proofs.promotion.add_each_to.Given as goal

-- the coupons so far were added in turn
abbrev pub invariant-loop-coupon : goal.invariant-loop-coupon
invariant-loop-coupon g l = (sketch_of_registers l.array ≡ add_in_turn (sketch_of_registers l.initial.array) l.yielded) × (l.array.lg_k ≡ l.initial.array.lg_k)
