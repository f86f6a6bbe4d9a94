-- SPDX-License-Identifier: Apache-2.0
use Rattle.std.proofs.Common.{◌≡◌, map, take}
use Rattle.std.specs.Int.{w32, from_le_bytes}
use Rattle.hll_images.proofs.image_coupons.copied.Given as goal

-- the raw coupons so far were copied
abbrev pub invariant-loop-element : goal.invariant-loop-element
invariant-loop-element g l = l.copy.items ≡ map (from_le_bytes w32) (take l.element-index l.elements)
