-- SPDX-License-Identifier: Apache-2.0
use Rattle.hll_images.proofs.SortedCoupons.{read_more}
use Rattle.hll_images.proofs.sorted.read_raw_coupons.Goals as goal

pub loop-index-preserved : goal.loop-index-preserved
loop-index-preserved c =
    read_more c.loop-index.index c.args.coupons.count c.args.coupons.bytes.now c.loop-index.cursor c.loop-index.numbers c.loop-index.invariant c.loop-index-test.true c.requires
    c.in-Ok.raw_coupon c.read_u32_le.new.self c.in-Ok.ensures.ok.1 c.in-Ok.ensures.ok.2
