-- SPDX-License-Identifier: Apache-2.0
use Rattle.std.proofs.Common.{arith, ◌≡◌, ◌%◌, ◌^◌, ◌≤◌, ◌<◌, ◌*◌, ◌-◌, ◌∙◌, ap, bit_and}
use Rattle.std.proofs.Math.Nat.{mod-eq_of_lt}
use Rattle.std.proofs.Math.Pow.{pow_mono}
use Rattle.std.proofs.lemmas.Nat.{and_mask}
use Rattle.hll_coupons.proofs.search.wrapped.Goals as goal

pub returns : goal.returns
returns c =
    let few : 2 ^ c.args.lg_size ≤ 2 ^ 26 = pow_mono c.requires in
    let below : 1 * 2 ^ c.args.lg_size < 18446744073709551616 = omega (arith, few) in
    let shifted : 1 * 2 ^ c.args.lg_size % 18446744073709551616 ≡ 2 ^ c.args.lg_size = omega (arith, mod-eq_of_lt below) in
    ap (λ m. bit_and c.args.bucket (m - 1)) shifted ∙ and_mask c.args.bucket c.args.lg_size
