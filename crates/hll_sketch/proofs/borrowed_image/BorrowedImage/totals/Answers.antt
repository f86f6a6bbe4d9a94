-- SPDX-License-Identifier: Apache-2.0
use Rattle.std.proofs.Common.{map, length, refl, sym, subst}
use Rattle.std.specs.Int.{w32, from_le_bytes}
use Rattle.hll_coupons.specs.Pair.{set_of}
use Rattle.hll_sketch.specs.BorrowedImage.{sketch_of_borrowed}
use Rattle.hll_sketch.specs.Totals.{AreCouponTotals}
use Rattle.hll_sketch.proofs.borrowed_image.BorrowedImage.totals.Goals as goal

pub returns-in-Coupons : goal.returns-in-Coupons
returns-in-Coupons g c =
    let held = c.in-Coupons.coupons in
    subst (λ b. AreCouponTotals (sketch_of_borrowed b) held.lg_size (length held.elements.now)) (sym c.in-Coupons.is)
    (record { pairs = set_of (map (from_le_bytes w32) held.elements.now); content = refl; number = held.once })
