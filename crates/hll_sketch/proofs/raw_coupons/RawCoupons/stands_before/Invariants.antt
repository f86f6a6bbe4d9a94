-- SPDX-License-Identifier: Apache-2.0
use Rattle.std.proofs.Common.{◌≡◌, nat_eq, map, take}
use Rattle.std.specs.Int.{w32, from_le_bytes}
use Rattle.std.specs.List.{list_any}
use Rattle.hll_sketch.proofs.raw_coupons.RawCoupons.stands_before.Given as goal

-- whether one of the elements so far is this raw coupon
abbrev pub invariant-loop-element : goal.invariant-loop-element
invariant-loop-element l = l.found ≡ list_any (λ w. nat_eq w l.fn.raw_coupon) (take l.element-index (map (from_le_bytes w32) l.element-items))
