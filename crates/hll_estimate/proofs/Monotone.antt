-- SPDX-License-Identifier: Apache-2.0
-- A greater register never lowers the estimate in fixed point.
use Rattle.std.proofs.Common.{◌≡◌, ℕ, zero, suc, ◌+◌, ◌-◌, ◌*◌, ◌/◌, ◌^◌, ◌<◌, ◌≤◌, sym, ap, ◌∙◌, inl, inr, arith}
use Rattle.std.proofs.Math.Nat.{mul-le-mul_left, mul-le-mul_right, le_of_mul-le-mul_right, div-mul-le_self, add-mul-div_left}
use Rattle.std.proofs.Math.Pow.{pow_mono}
use Rattle.std.proofs.lemmas.Bool.{cases_lt}
use Rattle.std.proofs.lemmas.Nat.{mul-le, le-div, pow-add, pow_pos}
use Rattle.hll_estimate.specs.Estimate.{bias_of}
use Rattle.hll_estimate.specs.FixedPoint.{square_of, rho_of, AreBounded, twice_alpha_of, twice_weight_of, raw_estimate_of}
use Rattle.hll_estimate.proofs.Numbers.{power_small}
use Rattle.hll_estimate.proofs.Squares.{square_low, square_small}
use Rattle.hll_estimate.proofs.Sums.{rho_rises}
use Rattle.hll_estimate.proofs.Weights.{part_is, shift_is}
use Rattle.hll_estimate.proofs.Nearness.{alpha_low, alpha_high, alpha_large, weight_some}

quotient_rises : (a b p : ℕ) → 0 < p → a ≤ b → a / p ≤ b / p
quotient_rises a b p some le = le-div (a / p) b p some (let e : a / p * p ≤ a = div-mul-le_self a p in omega (arith, e, le))

-- ---- the terms are at most 2 x / (1 - x)

bounded_step : (y g q t h r : ℕ) → q ≡ y + g → q ≡ t + h → 0 < q → t * q ≤ y * y → r * h ≤ 2 * t * q → (y + 2 * r) * g ≤ 2 * y * q
bounded_step y g q t h r eg eh some low rest =
    let one : g * (q + y) + y * y ≡ q * q = rw eg (omega arith) in
    let two : q * q ≡ q * (t + h) = ap (λ x. q * x) eh in
    let three : g * (q + y) ≤ q * h = omega (arith, one, two, low) in
    let four : r * (g * (q + y)) ≤ r * (q * h) = mul-le-mul_left r three in
    let five : q * (r * h) ≤ q * (2 * t * q) = mul-le-mul_left q rest in
    let six : q * (t * q) ≤ q * (y * y) = mul-le-mul_left q low in
    let seven : y * (g * (q + y)) + 4 * (q * (y * y)) ≤ 2 * y * q * (q + y) = rw eg (omega arith) in
    let all : (y + 2 * r) * g * (q + y) ≤ 2 * y * q * (q + y) = omega (arith, four, five, six, seven) in
    le_of_mul-le-mul_right all (omega arith)

rho_bounded : (n y g : ℕ) → y + g ≡ 2 ^ 96 → 0 < g → rho_of n y * g ≤ 2 * y * 2 ^ 96
unfolding rho_of
rho_bounded zero y g sum some = omega arith
rho_bounded (suc n) y g sum some =
    let t : ℕ = square_of y in
    let small : t < 2 ^ 96 = square_small y (omega arith) in
    bounded_step y g (2 ^ 96) t (2 ^ 96 - t) (rho_of n t) (sym sum) (let e : 2 ^ 96 ≡ t + (2 ^ 96 - t) = omega (arith, small) in e) (omega arith) (square_low y) (rho_bounded n t (2 ^ 96 - t) (omega (arith, small)) (omega (arith, small)))

-- ---- the weight

weight_of_parts : (S q r c d m g p : ℕ) → m ≡ c + d → 0 < g → 0 < p → g * m ≡ 2 ^ 96 → p * m ≡ 2 ^ 33 → S ≤ m * 2 ^ 63 → q * p ≤ r → r * (d * g) ≤ 2 * (c * g) * 2 ^ 96 → (S + q) * d ≤ 2 ^ 64 * (m * m)
weight_of_parts S q r c d m g p em some room whole shift first floor high =
    let one : r * d * g ≤ 2 * c * 2 ^ 96 * g = omega (arith, high) in
    let two : r * d ≤ 2 * c * 2 ^ 96 = le_of_mul-le-mul_right one some in
    let three : d * (q * p) ≤ d * r = mul-le-mul_left d floor in
    let four : 2 * c * 2 ^ 63 * (p * m) ≡ 2 * c * 2 ^ 63 * 2 ^ 33 = ap (λ x. 2 * c * 2 ^ 63 * x) shift in
    let five : q * d * p ≤ 2 * c * 2 ^ 63 * m * p = omega (arith, two, three, four) in
    let six : q * d ≤ 2 * c * 2 ^ 63 * m = le_of_mul-le-mul_right five room in
    let seven : S * d ≤ m * 2 ^ 63 * d = mul-le-mul_right d first in
    let eight : m * m ≡ m * (c + d) = ap (λ x. m * x) em in
    omega (arith, six, seven, eight)

weight_bounded : (k c u : ℕ) → AreBounded k c u → twice_weight_of k c u * (2 ^ k - c) ≤ 2 ^ 64 * (2 ^ k * 2 ^ k)
unfolding twice_weight_of
weight_bounded k c u a =
    let m : ℕ = 2 ^ k in
    let d : ℕ = m - c in
    let g : ℕ = 2 ^ (96 - k) in
    let p : ℕ = 2 ^ (33 - k) in
    let r : ℕ = rho_of (k + 7) (c * g) in
    let sum : m ≡ c + d = omega (arith, a.some) in
    let whole : g * m ≡ 2 ^ 96 = let e = part_is k 1 a.most in omega (arith, e) in
    let both : c * g + d * g ≡ 2 ^ 96 = (let e : c * g + d * g ≡ g * (c + d) = omega arith in e) ∙ ap (λ x. g * x) (sym sum) ∙ whole in
    let left : 1 * 1 ≤ d * g = mul-le 1 1 d g (omega (arith, a.some)) (pow_pos (96 - k)) in
    let first : 2 * u - c * 2 ^ 63 ≤ m * 2 ^ 63 = omega (arith, a.high, a.some) in
    weight_of_parts (2 * u - c * 2 ^ 63) (r / p) r c d m g p sum (pow_pos (96 - k)) (pow_pos (33 - k)) whole (shift_is k a.most) first (div-mul-le_self r p) (rho_bounded (k + 7) (c * g) (d * g) both (omega (arith, left)))

-- if a zero gets greater, the sum of weights falls by at least half of its weight
weight_falls : (k c u v : ℕ) → AreBounded k (c + 1) u → v + 2 ^ 62 ≤ u → twice_weight_of k c v + 2 ^ 63 ≤ twice_weight_of k (c + 1) u
unfolding twice_weight_of
weight_falls k c u v a less =
    let p : ℕ = 2 ^ (33 - k) in
    let g : ℕ = 2 ^ (96 - k) in
    let n : ℕ = k + 6 in
    let count : k + 7 ≡ suc n = omega arith in
    let rises : rho_of (k + 7) (c * g) + g ≤ rho_of (k + 7) ((c + 1) * g) = rw count (rho_rises n (c * g) ((c + 1) * g) g (omega arith)) in
    let split : g ≡ p * 2 ^ 63 = ap (λ i. 2 ^ i) (let e : 96 - k ≡ 33 - k + 63 = omega (arith, a.most) in e) ∙ pow-add 2 (33 - k) 63 in
    let more : (rho_of (k + 7) (c * g) + p * 2 ^ 63) / p ≤ rho_of (k + 7) ((c + 1) * g) / p = quotient_rises (rho_of (k + 7) (c * g) + p * 2 ^ 63) (rho_of (k + 7) ((c + 1) * g)) p (pow_pos (33 - k)) (omega (arith, rises, split)) in
    let same : (rho_of (k + 7) (c * g) + p * 2 ^ 63) / p ≡ rho_of (k + 7) (c * g) / p + 2 ^ 63 = add-mul-div_left (rho_of (k + 7) (c * g)) (2 ^ 63) (pow_pos (33 - k)) in
    omega (arith, more, same, less, a.low)

-- ---- the alpha

alpha_of_parts : (v w t d m Z Y : ℕ) → 0 < d → 16 ≤ m → m ≤ 2 ^ 21 → 50 * (m * m * m) ≤ t → 2 ^ 48 ≤ v → v * t ≤ (w + 1) * (t + 29 * (2 * d + 1)) → Z * d ≤ 2 ^ 64 * (m * m) → Y + 2 ^ 63 ≤ Z → v * Y ≤ w * Z
alpha_of_parts v w t d m Z Y some large small cube most alpha weight less = elim (cases_lt w v) [
  | inr more ↦ mul-le v Y w Z more (omega arith)
  | inl fewer ↦
      let x : ℕ = v - (w + 1) in
      let ex : v ≡ w + 1 + x = omega (arith, fewer) in
      let one : x * t ≤ (w + 1) * (29 * (2 * d + 1)) = let s : (w + 1 + x) * t ≤ (w + 1) * (t + 29 * (2 * d + 1)) = rw ex at alpha in omega (arith, s) in
      let two : (w + 1) * (29 * (2 * d + 1)) ≤ v * (87 * d) = mul-le (w + 1) (29 * (2 * d + 1)) v (87 * d) (omega (arith, fewer)) (omega arith) in
      let three : x * (50 * (m * m * m)) ≤ x * t = mul-le-mul_left x cube in
      let four : Z * (x * (50 * (m * m * m))) ≤ Z * (v * (87 * d)) = mul-le-mul_left Z (omega (arith, one, two, three)) in
      let five : 87 * v * (Z * d) ≤ 87 * v * (2 ^ 64 * (m * m)) = mul-le-mul_left (87 * v) weight in
      let six : 50 * (x * m * Z) * (m * m) ≤ 87 * 2 ^ 64 * v * (m * m) = omega (arith, four, five) in
      let square : 1 * 1 ≤ m * m = mul-le 1 1 m m (omega arith) (omega arith) in
      let seven : 50 * (x * m * Z) ≤ 87 * 2 ^ 64 * v = le_of_mul-le-mul_right six (omega (arith, square)) in
      let eight : 16 * (x * Z) ≤ m * (x * Z) = mul-le-mul_right (x * Z) large in
      let nine : Z * 1 ≤ Z * d = mul-le-mul_left Z some in
      let ten : m * m ≤ 2 ^ 21 * 2 ^ 21 = mul-le m m (2 ^ 21) (2 ^ 21) small small in
      let last : v * (Y + 2 ^ 63) ≤ v * Z = mul-le-mul_left v less in
      let whole : v * Z ≡ (w + 1 + x) * Z = ap (λ i. i * Z) ex in
      omega (arith, seven, eight, nine, weight, ten, most, last, whole)
]

bias_falls : (m c : ℕ) → c + 1 < m → bias_of m c ≡ bias_of m (c + 1) + 29 * (2 * (m - (c + 1)) + 1)
unfolding bias_of
bias_falls m c less =
    let d : ℕ = m - (c + 1) in
    let next : m - c ≡ d + 1 = omega (arith, less) in
    let e : (m - c) * (m - c) ≡ (d + 1) * (d + 1) = λ i. next i * next i in
    omega (arith, e)

cube_below : (m c : ℕ) → 50 * (m * m * m) ≤ bias_of m c
unfolding bias_of
cube_below m c = omega arith

-- ---- the estimate

answer_rises : (v w Z Y P : ℕ) → 0 < Z → 0 < Y → v * Y ≤ w * Z → v * P / Z ≤ w * P / Y
answer_rises v w Z Y P some left le =
    let A : ℕ = v * P / Z in
    let one : A * Z ≤ v * P = div-mul-le_self (v * P) Z in
    let two : A * Z * Y ≤ v * P * Y = mul-le-mul_right Y one in
    let three : v * Y * P ≤ w * Z * P = mul-le-mul_right P le in
    let all : A * Y * Z ≤ w * P * Z = omega (arith, two, three) in
    le-div A (w * P) Y left (le_of_mul-le-mul_right all some)

pub one_zero_raised : (k c u v : ℕ) → AreBounded k (c + 1) u → AreBounded k c v → v + 2 ^ 62 ≤ u → raw_estimate_of k (c + 1) u ≤ raw_estimate_of k c v
unfolding raw_estimate_of
one_zero_raised k c u v a b less =
    let m : ℕ = 2 ^ k in
    let d : ℕ = m - (c + 1) in
    let large : 2 ^ 4 ≤ m = pow_mono a.least in
    let some : 0 < d = omega (arith, a.some) in
    let high : twice_alpha_of k (c + 1) * bias_of m (c + 1) ≤ (twice_alpha_of k c + 1) * (bias_of m (c + 1) + 29 * (2 * d + 1)) =
    let h : 20304127651739994 * (m * m * m) ≤ (twice_alpha_of k c + 1) * (bias_of m (c + 1) + 29 * (2 * d + 1)) = rw (bias_falls m c a.some) at (alpha_high k c) in
    omega (arith, h, alpha_low k (c + 1)) in
    answer_rises (twice_alpha_of k (c + 1)) (twice_alpha_of k c) (twice_weight_of k (c + 1) u) (twice_weight_of k c v) (2 ^ (2 * k + 47)) (weight_some k (c + 1) u a) (weight_some k c v b)
    (alpha_of_parts (twice_alpha_of k (c + 1)) (twice_alpha_of k c) (bias_of m (c + 1)) d m (twice_weight_of k (c + 1) u) (twice_weight_of k c v) some large (power_small k a.most) (cube_below m (c + 1)) (alpha_large k (c + 1) a.least) high (weight_bounded k (c + 1) u a) (weight_falls k c u v a less))

same_falls : (k c u v : ℕ) → v ≤ u → twice_weight_of k c v ≤ twice_weight_of k c u
unfolding twice_weight_of
same_falls k c u v le = omega arith

pub others_raised : (k c u v : ℕ) → AreBounded k c u → AreBounded k c v → v ≤ u → raw_estimate_of k c u ≤ raw_estimate_of k c v
unfolding raw_estimate_of
others_raised k c u v a b le =
    answer_rises (twice_alpha_of k c) (twice_alpha_of k c) (twice_weight_of k c u) (twice_weight_of k c v) (2 ^ (2 * k + 47)) (weight_some k c u a) (weight_some k c v b)
    (mul-le-mul_left (twice_alpha_of k c) (same_falls k c u v le))

-- one zero less, with the least change of the sum
one_less : (k c u : ℕ) → AreBounded k (c + 1) u → AreBounded k c (u - 2 ^ 62)
one_less k c u a = record { least = a.least; most = a.most; some = omega (arith, a.some); low = omega (arith, a.low, a.some); high = omega (arith, a.high, a.low, a.some) }

-- any number of zeros less
pub raised : (more k c u v : ℕ) → AreBounded k (c + more) u → AreBounded k c v → v + more * 2 ^ 62 ≤ u → raw_estimate_of k (c + more) u ≤ raw_estimate_of k c v
raised zero k c u v a b le = let e : c + 0 ≡ c = omega arith in rw e (others_raised k c u v (rw e at a) b (omega arith))
raised (suc more) k c u v a b le =
    let e : c + suc more ≡ c + more + 1 = omega arith in
    let a' = rw e at a in
    let fewer = one_less k (c + more) u a' in
    let first = one_zero_raised k (c + more) u (u - 2 ^ 62) a' fewer (omega (arith, a.low)) in
    let rest = raised more k c (u - 2 ^ 62) v fewer b (omega arith) in
    rw e (omega (arith, first, rest))

-- c' and u' belong to registers that are each at least those that c and u belong to: the weight of a register that is
-- no longer 0 is at most half of what it was
pub record AreRaised (k c u c' u' : ℕ) : Type 0 where
  pub bounded : AreBounded k c' u'
  pub zero_count : c' ≤ c
  pub lighter : u' + (c - c') * 2 ^ 62 ≤ u

pub raised_any : (k c u c' u' : ℕ) → AreBounded k c u → AreRaised k c u c' u' → raw_estimate_of k c u ≤ raw_estimate_of k c' u'
raised_any k c u c' u' a r =
    let e : c' + (c - c') ≡ c = omega (arith, r.zero_count) in
    let b = raised (c - c') k c' u u' (rw e a) r.bounded r.lighter in
    rw e at b
