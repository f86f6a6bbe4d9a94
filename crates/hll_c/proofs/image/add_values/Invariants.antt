-- SPDX-License-Identifier: Apache-2.0
use Rattle.std.proofs.Common.{◌≡◌, ◌≤◌, ◌-◌, drop, map}
use Rattle.hll_coupons.specs.Hashed.{coupon_of_bytes}
use Rattle.hll_sketch.specs.Laws.{add_in_turn}
use Rattle.hll_sketch.specs.Layout.{sketch_of}
use Rattle.hll_c.proofs.image.add_values.Given as goal

-- adding the coupons that are left to the sketch now gives what adding all gives to the sketch before
abbrev pub invariant-loop-first : goal.invariant-loop-first
invariant-loop-first g l =
    (l.first ≤ l.count) × (add_in_turn (sketch_of l.sketch) (drop l.first (map coupon_of_bytes (g.S.Strings.strings l.values))) ≡ add_in_turn (sketch_of l.fn.sketch) (map coupon_of_bytes (g.S.Strings.strings l.values)))

abbrev pub decreases-loop-first : goal.decreases-loop-first
decreases-loop-first g l = l.count - l.first
