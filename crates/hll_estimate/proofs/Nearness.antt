-- SPDX-License-Identifier: Apache-2.0
-- How near the estimate in fixed point is to the exact one.
use Rattle.std.proofs.Common.{◌≡◌, ℕ, zero, suc, ◌+◌, ◌-◌, ◌*◌, ◌/◌, ◌^◌, ◌<◌, ◌≤◌, ap, ◌∙◌, arith}
use Rattle.std.proofs.Math.Nat.{mul-le-mul_left, mul-le-mul_right}
use Rattle.std.proofs.Math.Pow.{pow_mono}
use Rattle.std.proofs.lemmas.Nat.{mul-le, le-div, pow-add, pow_pos}
use Rattle.hll_estimate.specs.Estimate.{IsNear, bias_of, weight_over, estimate_over, estimate_under}
use Rattle.hll_estimate.specs.FixedPoint.{AreBounded, twice_alpha_of, twice_weight_of, raw_estimate_of}
use Rattle.hll_estimate.specs.Series.{denominator}
use Rattle.hll_estimate.proofs.Numbers.{power_most}
use Rattle.hll_estimate.proofs.Weights.{weight_low, weight_high}

near_above : (A Z V T D W P C Q : ℕ) → P ≡ Q * 2 ^ 47 → A * Z ≤ V * P → V * T ≤ 20304127651739994 * C → 2 ^ 42 * W ≤ (2 ^ 42 + 3) * (Z * D) →
    A * (10 ^ 18 * T * W) * 2 ^ 40 ≤ 50 * 1442695040888963407 * C * Q * 2 ^ 95 * D * (2 ^ 40 + 1)
near_above A Z V T D W P C Q ep answer alpha weight =
    let one : A * T * (2 ^ 42 * W) ≤ A * T * ((2 ^ 42 + 3) * (Z * D)) = mul-le-mul_left (A * T) weight in
    let two : A * Z * (D * T) ≤ V * P * (D * T) = mul-le-mul_right (D * T) answer in
    let three : V * T * (D * P) ≤ 20304127651739994 * C * (D * P) = mul-le-mul_right (D * P) alpha in
    let four : C * D * P ≡ C * D * (Q * 2 ^ 47) = ap (λ x. C * D * x) ep in
    omega (arith, one, two, three, four)

near_below : (A Z V T D W P C Q : ℕ) → P ≡ Q * 2 ^ 47 → V * P ≤ (A + 1) * Z → 20304127651739994 * C ≤ (V + 1) * T → 2 ^ 48 ≤ V → Z * D ≤ W →
    50 * 1442695040888963407 * C * Q * 2 ^ 95 * D * (2 ^ 40 - 1) ≤ (A + 1) * (10 ^ 18 * T * W) * 2 ^ 40
near_below A Z V T D W P C Q ep answer alpha large weight =
    let one : (A + 1) * T * (Z * D) ≤ (A + 1) * T * W = mul-le-mul_left ((A + 1) * T) weight in
    let two : V * P * (D * T) ≤ (A + 1) * Z * (D * T) = mul-le-mul_right (D * T) answer in
    let three : 20304127651739994 * C * (D * P) ≤ (V + 1) * T * (D * P) = mul-le-mul_right (D * P) alpha in
    let four : C * D * P ≡ C * D * (Q * 2 ^ 47) = ap (λ x. C * D * x) ep in
    let five : 2 ^ 48 * (T * D * P) ≤ V * (T * D * P) = mul-le-mul_right (T * D * P) large in
    omega (arith, one, two, three, four, five)

-- ---- the alpha

pub bias_some : (k c : ℕ) → 0 < bias_of (2 ^ k) c
unfolding bias_of
bias_some k c =
    let m : ℕ = 2 ^ k in
    let one : 1 * 1 ≤ m * m = mul-le 1 1 m m (pow_pos k) (pow_pos k) in
    omega (arith, one)

bias_small : (k c : ℕ) → 4 ≤ k → bias_of (2 ^ k) c ≤ 54 * (2 ^ k * 2 ^ k * 2 ^ k)
unfolding bias_of
bias_small k c least =
    let m : ℕ = 2 ^ k in
    let large : 2 ^ 4 ≤ m = pow_mono least in
    let others : (m - c) * (m - c) ≤ m * m = mul-le (m - c) (m - c) m m (omega arith) (omega arith) in
    let cube : 16 * (m * m) ≤ m * (m * m) = mul-le-mul_right (m * m) large in
    omega (arith, others, cube)

pub alpha_low : (k c : ℕ) → twice_alpha_of k c * bias_of (2 ^ k) c ≤ 20304127651739994 * (2 ^ k * 2 ^ k * 2 ^ k)
unfolding twice_alpha_of
alpha_low k c = omega arith

pub alpha_high : (k c : ℕ) → 20304127651739994 * (2 ^ k * 2 ^ k * 2 ^ k) ≤ (twice_alpha_of k c + 1) * bias_of (2 ^ k) c
unfolding twice_alpha_of
alpha_high k c = omega (arith, bias_some k c)

pub alpha_large : (k c : ℕ) → 4 ≤ k → 2 ^ 48 ≤ twice_alpha_of k c
unfolding twice_alpha_of
alpha_large k c least = le-div (2 ^ 48) _ (bias_of (2 ^ k) c) (bias_some k c) (let e = bias_small k c least in omega (arith, e))

-- ---- the estimate

denominator_some : (n b : ℕ) → 0 < b → 0 < denominator n b
unfolding denominator
denominator_some zero b some = omega arith
denominator_some (suc n) b some =
    let square : 1 * 1 ≤ b * b = mul-le 1 1 b b some some in
    let rest : 0 < denominator n (b * b) = denominator_some n (b * b) (omega (arith, square)) in
    mul-le 1 1 b (denominator n (b * b)) some rest

product_some : (T W Z D : ℕ) → 0 < T → 0 < Z → 0 < D → Z * D ≤ W → 0 < 10 ^ 18 * T * W
product_some T W Z D t z d le =
    let one : 1 * 1 ≤ Z * D = mul-le 1 1 Z D z d in
    let two : 1 * 1 ≤ T * W = mul-le 1 1 T W t (omega (arith, one, le)) in
    omega (arith, two)

power_is : (k : ℕ) → 2 ^ (2 * k + 47) ≡ 2 ^ k * 2 ^ k * 2 ^ 47
power_is k = ap (λ i. 2 ^ i) (let e : 2 * k + 47 ≡ k + k + 47 = omega arith in e) ∙ pow-add 2 (k + k) 47 ∙ ap (λ x. x * 2 ^ 47) (pow-add 2 k k)

pub weight_some : (k c u : ℕ) → AreBounded k c u → 0 < twice_weight_of k c u
unfolding twice_weight_of
weight_some k c u a = omega (arith, power_most k c u a, pow_pos k)

pub estimate_near : (t k c u : ℕ) → k + 7 ≤ t → AreBounded k c u → IsNear (raw_estimate_of k c u) (estimate_over t k) (estimate_under t k c u)
unfolding raw_estimate_of estimate_over estimate_under
estimate_near t k c u enough a =
    let m : ℕ = 2 ^ k in
    let V : ℕ = twice_alpha_of k c in
    let Z : ℕ = twice_weight_of k c u in
    let P : ℕ = 2 ^ (2 * k + 47) in
    let some = weight_some k c u a in
    record {
      fraction = product_some (bias_of m c) (weight_over t k c u) Z (denominator t m) (bias_some k c) some (denominator_some t m (pow_pos k)) (weight_low t k c u enough a);
      not_above = near_above (V * P / Z) Z V (bias_of m c) (denominator t m) (weight_over t k c u) P (m * m * m) (m * m) (power_is k) (omega arith) (alpha_low k c) (weight_high t k c u enough a);
      not_below = near_below (V * P / Z) Z V (bias_of m c) (denominator t m) (weight_over t k c u) P (m * m * m) (m * m) (power_is k) (omega arith) (alpha_high k c) (alpha_large k c a.least) (weight_low t k c u enough a);
    }
