-- SPDX-License-Identifier: Apache-2.0
use Rattle.std.proofs.Common.{List, ℕ, [], sym, ap, ◌∙◌, arith}
use Rattle.std.proofs.lemmas.List.{length-map, get_or-map}
use Rattle.hll_coupons.specs.Hashed.{coupon_of_bytes}
use Rattle.hll_c.proofs.coupons.CouponsOfCoupons.coupon.Goals as goal

pub string-requires-clause-within : goal.string-requires-clause-within
string-requires-clause-within g c = omega (arith, c.requires.within, length-map (g.S.Strings.strings c.args.self.now.strings.now) coupon_of_bytes)

pub returns : goal.returns
returns g c =
    let all : List (List ℕ) = g.S.Strings.strings c.args.self.now.strings.now in
    c.from_bytes.ensures.bytes ∙ ap coupon_of_bytes c.string.ensures
    ∙ sym (get_or-map coupon_of_bytes all c.args.number [] 0 (omega (arith, c.requires.within, length-map all coupon_of_bytes)))
