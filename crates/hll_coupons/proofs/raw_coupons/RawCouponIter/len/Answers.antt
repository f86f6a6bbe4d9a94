-- SPDX-License-Identifier: Apache-2.0
use Rattle.std.proofs.Common.{length, sym, ap, ◌∙◌}
use Rattle.hll_coupons.proofs.Merging.{length-raw_coupons}
use Rattle.hll_coupons.proofs.raw_coupons.RawCouponIter.len.Goals as goal

pub returns : goal.returns
returns c = sym (length-raw_coupons c.self.inside.count c.self.inside.bytes.now) ∙ ap length c.self.view_is
