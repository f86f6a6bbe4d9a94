-- SPDX-License-Identifier: Apache-2.0
use Rattle.std.proofs.Common.{◌∙◌}
use Rattle.hll_coupons.proofs.AddedCoupons.{among}
use Rattle.hll_coupons.proofs.additions.is_among.Goals as goal

pub returns : goal.returns
returns c = c.is_ok.ensures.value ∙ among c.args.own.now c.args.coupon c.binary_search.result c.requires c.binary_search.ensures.position
