-- SPDX-License-Identifier: Apache-2.0
use Rattle.std.proofs.Common.{◌≡◌, ℕ, ◌-◌, ◌*◌, ◌/◌, ◌%◌, ◌^◌, ◌<◌, ◌≤◌, arith}
use Rattle.std.proofs.Math.Nat.{div-le_of_le-mul, mod-eq_of_lt, mul-le-mul_right}
use Rattle.std.proofs.Math.Pow.{pow_mono}
use Rattle.hll_estimate.specs.FixedPoint.{AreBounded, twice_weight_of}
use Rattle.hll_estimate.proofs.Numbers.{part_below, power_small, power_most, units_small}
use Rattle.hll_estimate.proofs.series.twice_weight.Goals as goal

-- the part as it is computed
part : (k c u d : ℕ) → AreBounded k c u → d ≡ c → (d * 2 ^ (96 - k)) % 2 ^ 128 ≡ c * 2 ^ (96 - k)
part k c u d a is = rw is (let below = part_below k c a.most a.some in let e : c * 2 ^ (96 - k) < 2 ^ 128 = omega (arith, below) in mod-eq_of_lt e)

-- the zeros in units
zeros : (k c u d : ℕ) → AreBounded k c u → d ≡ c → (d * 2 ^ 63) % 2 ^ 128 ≡ c * 2 ^ 63
zeros k c u d a is = rw is (let p = power_small k a.most in let e : c * 2 ^ 63 < 2 ^ 128 = omega (arith, p, a.some) in mod-eq_of_lt e)

pub rho-requires-clause-part : goal.rho-requires-clause-part
rho-requires-clause-part c =
    rw (part c.args.lg_k c.args.zeros c.args.units c.from.result c.requires c.from.ensures) (part_below c.args.lg_k c.args.zeros c.requires.most c.requires.some)

pub returns-clause-value : goal.returns-clause-value
unfolding twice_weight_of
returns-clause-value c =
    let p = part c.args.lg_k c.args.zeros c.args.units c.from.result c.requires c.from.ensures in
    let z = zeros c.args.lg_k c.args.zeros c.args.units c.from-2.result c.requires c.from-2.ensures in
    let s = rw p at c.rho.ensures.value in
    rw (z, s)

pub returns-clause-some : goal.returns-clause-some
returns-clause-some c =
    let z = zeros c.args.lg_k c.args.zeros c.args.units c.from-2.result c.requires c.from-2.ensures in
    rw z (omega (arith, power_most c.args.lg_k c.args.zeros c.args.units c.requires))

pub returns-clause-small : goal.returns-clause-small
returns-clause-small c =
    let p : 2 ^ 12 ≤ 2 ^ (33 - c.args.lg_k) = pow_mono (let e : 12 ≤ 33 - c.args.lg_k = omega (arith, c.requires.most) in e) in
    let wide : 2 ^ 12 * 2 ^ 112 ≤ 2 ^ (33 - c.args.lg_k) * 2 ^ 112 = mul-le-mul_right (2 ^ 112) p in
    let q : c.rho.result / 2 ^ (33 - c.args.lg_k) ≤ 2 ^ 112 = div-le_of_le-mul (2 ^ (33 - c.args.lg_k)) (omega (arith, wide, c.rho.ensures.small)) in
    omega (arith, q, units_small c.args.lg_k c.args.zeros c.args.units c.requires)
