-- SPDX-License-Identifier: Apache-2.0
-- How near the weight in fixed point is to the exact one.
use Rattle.std.proofs.Common.{◌≡◌, ℕ, zero, suc, ◌+◌, ◌-◌, ◌*◌, ◌/◌, ◌^◌, ◌<◌, ◌≤◌, sym, ap, ◌∙◌, refl, arith}
use Rattle.std.proofs.Math.Nat.{mul-le-mul_left, mul-le-mul_right, le_of_mul-le-mul_right, div-mul-le_self}
use Rattle.std.proofs.Math.Pow.{pow_mono}
use Rattle.std.proofs.lemmas.Nat.{mul-le, pow-add, pow_pos}
use Rattle.hll_estimate.specs.Estimate.{weight_over}
use Rattle.hll_estimate.specs.FixedPoint.{square_of, rho_of, AreBounded, twice_weight_of}
use Rattle.hll_estimate.specs.Series.{denominator, numerator}
use Rattle.hll_estimate.proofs.Numbers.{power_small}
use Rattle.hll_estimate.proofs.SeriesBounds.{not_above, not_below, error_of, error_sum, repeated}
use Rattle.hll_estimate.proofs.Tail.{small_half, small_power, least, none}

-- a sum of more terms is no smaller
rho_more : (n t y : ℕ) → n ≤ t → rho_of n y ≤ rho_of t y
unfolding rho_of
rho_more zero t y le = omega arith
rho_more (suc n) zero y le = absurd (omega arith)
rho_more (suc n) (suc t) y le = let r = rho_more n t (square_of y) (omega arith) in omega (arith, r)

-- the part of the registers that is 0 is exact
pub part_is : (k c : ℕ) → k ≤ 21 → c * 2 ^ (96 - k) * 2 ^ k ≡ c * 2 ^ 96
part_is k c le =
    let whole : 2 ^ (96 - k) * 2 ^ k ≡ 2 ^ 96 = sym (pow-add 2 (96 - k) k) ∙ ap (λ i. 2 ^ i) (let e : 96 - k + k ≡ 96 = omega arith in e) in
    let f : c * (2 ^ (96 - k) * 2 ^ k) ≡ c * 2 ^ 96 = ap (λ x. c * x) whole in
    omega (arith, f)

pub shift_is : (k : ℕ) → k ≤ 21 → 2 ^ (33 - k) * 2 ^ k ≡ 2 ^ 33
shift_is k le = sym (pow-add 2 (33 - k) k) ∙ ap (λ i. 2 ^ i) (let e : 33 - k + k ≡ 33 = omega arith in e)

-- ---- not above

low_of_floor : (q r p m N D : ℕ) → 0 < p → p * m ≡ 2 ^ 33 → q * p ≤ r → r * D ≤ N * 2 ^ 96 → q * D ≤ 2 ^ 63 * m * N
low_of_floor q r p m N D some is floor le =
    let one : q * p * D ≤ r * D = mul-le-mul_right D floor in
    let two : N * 2 ^ 63 * (p * m) ≡ N * 2 ^ 63 * 2 ^ 33 = ap (λ x. N * 2 ^ 63 * x) is in
    let all : q * D * p ≤ 2 ^ 63 * m * N * p = omega (arith, one, two, le) in
    le_of_mul-le-mul_right all some

pub weight_low : (t k c u : ℕ) → k + 7 ≤ t → AreBounded k c u → twice_weight_of k c u * denominator t (2 ^ k) ≤ weight_over t k c u
unfolding twice_weight_of weight_over
weight_low t k c u enough a =
    let y : ℕ = c * 2 ^ (96 - k) in
    let r : ℕ = rho_of (k + 7) y in
    let q : ℕ = r / 2 ^ (33 - k) in
    let D : ℕ = denominator t (2 ^ k) in
    let exact : y * 2 ^ k ≤ c * 2 ^ 96 = omega (arith, part_is k c a.most) in
    let all = not_above t y c (2 ^ k) exact in
    let more : r * D ≤ rho_of t y * D = mul-le-mul_right D (rho_more (k + 7) t y enough) in
    let floor : q * 2 ^ (33 - k) ≤ r = div-mul-le_self r (2 ^ (33 - k)) in
    let low = low_of_floor q r (2 ^ (33 - k)) (2 ^ k) (numerator t c (2 ^ k)) D (pow_pos (33 - k)) (shift_is k a.most) floor (omega (arith, more, all)) in
    omega (arith, low)

-- ---- not far below: two parts in 2^42

-- the product of two parts of a sum
product_least : (c d m : ℕ) → 0 < c → 0 < d → m ≡ c + d → 16 ≤ m → 15 * m ≤ 16 * (c * d)
product_least c d m zeros some em large =
    let one : 1 * (d - 1) ≤ c * (d - 1) = mul-le-mul_right (d - 1) zeros in
    let two : c * (d - 1 + 1) ≡ c * d = ap (λ x. c * x) (let e : d - 1 + 1 ≡ d = omega arith in e) in
    omega (arith, one, two)

-- a lower bound of the weight
least_weight : (m c d N D v S : ℕ) → 0 < c → 0 < d → m ≡ c + d → 16 ≤ m → c * D ≤ 2 * d * N → c * 2 ^ 63 ≤ S → v ≡ S * D + 2 ^ 63 * m * N → 15 * 2 ^ 63 * (m * m * D) ≤ 32 * (d * d * v)
least_weight m c d N D v S zeros some em large low first ev =
    let one : 2 ^ 63 * m * d * (c * D) ≤ 2 ^ 63 * m * d * (2 * d * N) = mul-le-mul_left (2 ^ 63 * m * d) low in
    let two : 15 * m * (m * D) ≤ 16 * (c * d) * (m * D) = mul-le-mul_right (m * D) (product_least c d m zeros some em large) in
    let whole : d * d * v ≡ d * d * (S * D + 2 ^ 63 * m * N) = ap (λ x. d * d * x) ev in
    omega (arith, one, two, whole)

-- with the error of the terms
high_of_parts : (q r p m c d N D w v S : ℕ) → 0 < d → 0 < c → m ≡ c + d → m ≤ 2 ^ 21 → 16 ≤ m → p * m ≡ 2 ^ 33 →
    r ≤ (q + 1) * p → w ≤ 2176 * m → N * 2 ^ 96 * (d * d) ≤ (r * (d * d) + w * (m * m)) * D → c * D ≤ 2 * d * N → c * 2 ^ 63 ≤ S →
    v ≡ S * D + 2 ^ 63 * m * N → 2 ^ 41 * v ≤ 2 ^ 41 * ((S + q + 1) * D) + v
high_of_parts q r p m c d N D w v S some zeros em small large is floor error high low first ev =
    let one : r * (d * d * D) ≤ (q + 1) * p * (d * d * D) = mul-le-mul_right (d * d * D) floor in
    let two : w * (m * m * D) ≤ 2176 * m * (m * m * D) = mul-le-mul_right (m * m * D) error in
    let three : N * 2 ^ 96 * (d * d) ≤ (q + 1) * p * (d * d * D) + 2176 * m * (m * m * D) = omega (arith, high, one, two) in
    let four : m * (N * 2 ^ 96 * (d * d)) ≤ m * ((q + 1) * p * (d * d * D) + 2176 * m * (m * m * D)) = mul-le-mul_left m three in
    let five : (q + 1) * (d * d * D) * (p * m) ≡ (q + 1) * (d * d * D) * 2 ^ 33 = ap (λ x. (q + 1) * (d * d * D) * x) is in
    let squares : m * m ≤ 2 ^ 21 * 2 ^ 21 = mul-le m m (2 ^ 21) (2 ^ 21) small small in
    let six : m * m * (m * m * D) ≤ 2 ^ 21 * 2 ^ 21 * (m * m * D) = mul-le-mul_right (m * m * D) squares in
    let seven = least_weight m c d N D v S zeros some em large low first ev in
    let all : 2 ^ 104 * m * N * (d * d) ≤ (2 ^ 41 * ((q + 1) * D) + v) * (d * d) = omega (arith, four, five, six, seven) in
    let last : 2 ^ 104 * m * N ≤ 2 ^ 41 * ((q + 1) * D) + v = le_of_mul-le-mul_right all (let e : 1 * 1 ≤ d * d = mul-le 1 1 d d some some in omega (arith, e)) in
    omega (arith, last, ev)

-- with the error of rounding
rounded : (z D v c S q : ℕ) → z ≡ S + q → 0 < c → c * 2 ^ 63 ≤ S → 2 ^ 41 * v ≤ 2 ^ 41 * ((S + q + 1) * D) + v → 2 ^ 42 * v ≤ (2 ^ 42 + 3) * (z * D)
rounded z D v c S q ez zeros first le =
    let most : 2 ^ 63 * D ≤ z * D = mul-le-mul_right D (omega arith) in
    let same : z * D ≡ (S + q) * D = ap (λ x. x * D) ez in
    omega (arith, most, same, le)

floor_above : (r p : ℕ) → 0 < p → r ≤ (r / p + 1) * p
floor_above r p some = omega arith

units_least : (k c u : ℕ) → AreBounded k c u → c * 2 ^ 63 ≤ 2 * u - c * 2 ^ 63
units_least k c u a = omega (arith, a.low)

high_of_some : (t k c u : ℕ) → k + 7 ≤ t → AreBounded k c u → 0 < c → 2 ^ 42 * weight_over t k c u ≤ (2 ^ 42 + 3) * (twice_weight_of k c u * denominator t (2 ^ k))
unfolding twice_weight_of weight_over
high_of_some t k c u enough a zeros =
    let m : ℕ = 2 ^ k in
    let d : ℕ = m - c in
    let y : ℕ = c * 2 ^ (96 - k) in
    let r : ℕ = rho_of (k + 7) y in
    let p : ℕ = 2 ^ (33 - k) in
    let S : ℕ = 2 * u - c * 2 ^ 63 in
    let D : ℕ = denominator t m in
    let N : ℕ = numerator t c m in
    let sum : c + d ≡ m = omega (arith, a.some) in
    let some : 0 < d = omega (arith, a.some) in
    let is = part_is k c a.most in
    let below : y * (c + d) ≤ c * 2 ^ 96 = rw sum (omega (arith, is)) in
    let near : c * 2 ^ 96 ≤ y * (c + d) + 0 = rw sum (omega (arith, is)) in
    let power : repeated (k + 7) c * 2 ^ 128 ≤ repeated (k + 7) (c + d) = rw sum (small_power k c zeros a.some) in
    let high = rw sum at (not_below (k + 7) t y c d 0 enough some below near power) in
    let halves : repeated k c * 2 ≤ repeated k (c + d) = rw sum (small_half k c zeros a.some) in
    let low = rw sum at (least k t c d (omega arith) some halves) in
    let error : error_of (k + 7) ≤ 2176 * m = omega (arith, error_sum (k + 7), pow-add 2 k 7) in
    let large : 2 ^ 4 ≤ m = pow_mono a.least in
    let le = high_of_parts (r / p) r p m c d N D (error_of (k + 7)) (S * D + 2 ^ 63 * m * N) S some zeros (sym sum) (power_small k a.most) large (shift_is k a.most) (floor_above r p (pow_pos (33 - k))) error (omega (arith, high)) low (units_least k c u a) refl in
    rounded (S + r / p) D (S * D + 2 ^ 63 * m * N) c S (r / p) refl zeros (units_least k c u a) le

high_of_none : (t k u : ℕ) → 2 ^ 42 * weight_over t k 0 u ≤ (2 ^ 42 + 3) * (twice_weight_of k 0 u * denominator t (2 ^ k))
unfolding twice_weight_of weight_over
high_of_none t k u =
    let D : ℕ = denominator t (2 ^ k) in
    let first : (2 * u - 0 * 2 ^ 63) * D ≤ (2 * u - 0 * 2 ^ 63 + rho_of (k + 7) (0 * 2 ^ (96 - k)) / 2 ^ (33 - k)) * D = mul-le-mul_right D (omega arith) in
    let zeros : 2 ^ 63 * 2 ^ k * numerator t 0 (2 ^ k) ≡ 0 = rw none (omega arith) in
    omega (arith, first, zeros)

pub weight_high : (t k c u : ℕ) → k + 7 ≤ t → AreBounded k c u → 2 ^ 42 * weight_over t k c u ≤ (2 ^ 42 + 3) * (twice_weight_of k c u * denominator t (2 ^ k))
weight_high t k zero u enough a = high_of_none t k u
weight_high t k (suc c) u enough a = high_of_some t k (suc c) u enough a (omega arith)
