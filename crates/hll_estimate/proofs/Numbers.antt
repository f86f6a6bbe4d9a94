-- SPDX-License-Identifier: Apache-2.0
-- Lemmas on the numbers of registers.
use Rattle.std.proofs.Common.{◌≡◌, ℕ, ◌+◌, ◌-◌, ◌*◌, ◌/◌, ◌%◌, ◌^◌, ◌<◌, ◌≤◌, sym, ap, ◌∙◌, arith}
use Rattle.std.proofs.Math.Nat.{mul-le-mul_left, mul-le-mul_right, div-mul-le_self, add-mul-div_left, add_comm, lt_of_mul-lt-mul_right}
use Rattle.std.proofs.Math.Pow.{pow_mono}
use Rattle.std.proofs.lemmas.Nat.{pow-add, pow_pos}
use Rattle.hll_estimate.specs.FixedPoint.{AreBounded}

pub power_small : (k : ℕ) → k ≤ 21 → 2 ^ k ≤ 2 ^ 21
power_small k le = pow_mono le

-- a part of the registers, in units of 2^-96, is below 1
pub part_below : (k c : ℕ) → k ≤ 21 → c < 2 ^ k → c * 2 ^ (96 - k) < 2 ^ 96
part_below k c le lt =
    let whole : 2 ^ k * 2 ^ (96 - k) ≡ 2 ^ 96 = sym (pow-add 2 k (96 - k)) ∙ ap (λ i. 2 ^ i) (let e : k + (96 - k) ≡ 96 = omega arith in e) in
    let next : (c + 1) * 2 ^ (96 - k) ≤ 2 ^ k * 2 ^ (96 - k) = mul-le-mul_right (2 ^ (96 - k)) (omega arith) in
    omega (arith, whole, next, pow_pos (96 - k))

pub units_small : (k c u : ℕ) → AreBounded k c u → 2 * u ≤ 2 ^ 85
units_small k c u a = let p : 2 ^ k ≤ 2 ^ 21 = power_small k a.most in omega (arith, a.high, a.some, p)

pub power_most : (k c u : ℕ) → AreBounded k c u → 2 ^ k + c * 2 ^ 63 ≤ 2 * u
power_most k c u a = omega (arith, a.low, a.some)

-- ---- a division in two steps

pub in_steps : (n z : ℕ) → 0 < z → n * 1024 / z ≡ n / z * 1024 + n % z * 1024 / z
in_steps n z some =
    let parts : n * 1024 ≡ n % z * 1024 + z * (n / z * 1024) = omega arith in
    ap (λ x. x / z) parts ∙ add-mul-div_left (n % z * 1024) (n / z * 1024) some ∙ add_comm (n % z * 1024 / z) (n / z * 1024)

-- the first quotient leaves room for ten bits
pub quotient_small : (k v z : ℕ) → k ≤ 21 → v < 2 ^ 49 → 2 ^ k ≤ z → v * 2 ^ (2 * k + 37) / z < 2 ^ 107
quotient_small k v z small alpha le =
    let q : ℕ = v * 2 ^ (2 * k + 37) / z in
    let some : 0 < z = omega (arith, le, pow_pos k) in
    let low : q * z ≤ v * 2 ^ (2 * k + 37) = div-mul-le_self (v * 2 ^ (2 * k + 37)) z in
    let first : q * 2 ^ k ≤ q * z = mul-le-mul_left q le in
    let second : (v + 1) * 2 ^ (2 * k + 37) ≤ 2 ^ 49 * 2 ^ (2 * k + 37) = mul-le-mul_right (2 ^ (2 * k + 37)) (omega arith) in
    let split : 2 ^ (2 * k + 37) ≡ 2 ^ (k + 37) * 2 ^ k = ap (λ i. 2 ^ i) (let e : 2 * k + 37 ≡ k + 37 + k = omega arith in e) ∙ pow-add 2 (k + 37) k in
    let most : 2 ^ (k + 37) ≤ 2 ^ 58 = pow_mono (let e : k + 37 ≤ 58 = omega arith in e) in
    let wide : 2 ^ (k + 37) * 2 ^ k ≤ 2 ^ 58 * 2 ^ k = mul-le-mul_right (2 ^ k) most in
    let less : q * 2 ^ k < 2 ^ 107 * 2 ^ k = omega (arith, first, low, second, split, wide, pow_pos (2 * k + 37)) in
    lt_of_mul-lt-mul_right (2 ^ k) less
