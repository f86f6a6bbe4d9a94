-- SPDX-License-Identifier: Apache-2.0
use Rattle.std.proofs.Common.{◌≡◌, take}
use Rattle.hll_base.specs.Join.{join}
use Rattle.hll_coupons.specs.Fold.{fold_to}
use Rattle.hll_coupons.specs.Pair.{set_of}
use Rattle.hll_images.proofs.image_coupons.max_coupons.Given as goal

-- the coupons so far were added
abbrev pub invariant-loop-raw : goal.invariant-loop-raw
invariant-loop-raw l = l.registers ≡ join l.fn.registers (fold_to (set_of (take l.raw-index l.raw_coupons)) l.fn.lg_k)
