-- SPDX-License-Identifier: Apache-2.0
use Rattle.std.proofs.Common.{◌≡◌, take}
use Rattle.hll_coupons.specs.Coupons.{raw_coupons}
use Rattle.hll_images.proofs.sorted.write_raw_coupons.Given as goal

abbrev pub invariant-loop-index : goal.invariant-loop-index
invariant-loop-index l = raw_coupons l.index l.room ≡ take l.index l.fn.numbers
