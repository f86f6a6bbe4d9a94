-- SPDX-License-Identifier: Apache-2.0
use Rattle.std.proofs.Common.{sym, ◌∙◌}
use Rattle.std.proofs.lemmas.List.{length-map}
use Rattle.hll_coupons.specs.Hashed.{coupon_of_bytes}
use Rattle.hll_c.proofs.coupons.CouponsOfCoupons.count.Goals as goal

pub returns : goal.returns
returns g c = c.count.ensures ∙ sym (length-map (g.S.Strings.strings c.args.self.now.strings.now) coupon_of_bytes)
