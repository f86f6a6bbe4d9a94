-- SPDX-License-Identifier: Apache-2.0
-- How near the terms in fixed point are to the exact ones.
use Rattle.std.proofs.Common.{◌≡◌, ℕ, zero, suc, ◌+◌, ◌*◌, ◌^◌, ◌<◌, ◌≤◌, refl, arith}
use Rattle.std.proofs.Math.Nat.{mul-le-mul_left, mul-le-mul_right, le_of_mul-le-mul_right, pow-succ'}
use Rattle.std.proofs.lemmas.Nat.{mul-le}
use Rattle.hll_estimate.specs.FixedPoint.{square_of, rho_of}
use Rattle.hll_estimate.specs.Series.{denominator, numerator}
use Rattle.hll_estimate.proofs.Squares.{square_low, square_high}

-- ---- not above

-- if y is not above a / b, its square is not above theirs
below_square : (q y t a b : ℕ) → 0 < q → t * q ≤ y * y → y * b ≤ a * q → t * (b * b) ≤ a * a * q
below_square q y t a b some low le =
    let one : t * q * (b * b) ≤ y * y * (b * b) = mul-le-mul_right (b * b) low in
    let two : y * b * (y * b) ≤ a * q * (a * q) = mul-le (y * b) (y * b) (a * q) (a * q) le le in
    let both : t * (b * b) * q ≤ a * a * q * q = omega (arith, one, two) in
    le_of_mul-le-mul_right both some

below_sum : (q y r a b D N : ℕ) → y * b ≤ a * q → r * D ≤ N * q → (y + 2 * r) * (b * D) ≤ (a * D + 2 * b * N) * q
below_sum q y r a b D N first rest =
    let one : y * b * D ≤ a * q * D = mul-le-mul_right D first in
    let two : 2 * b * (r * D) ≤ 2 * b * (N * q) = mul-le-mul_left (2 * b) rest in
    omega (arith, one, two)

pub not_above : (n y a b : ℕ) → y * b ≤ a * 2 ^ 96 → rho_of n y * denominator n b ≤ numerator n a b * 2 ^ 96
unfolding rho_of denominator numerator
not_above zero y a b le = omega arith
not_above (suc n) y a b le =
    below_sum (2 ^ 96) y (rho_of n (square_of y)) a b (denominator n (b * b)) (numerator n (a * a) (b * b)) le
    (not_above n (square_of y) (a * a) (b * b) (below_square (2 ^ 96) y (square_of y) a b (omega arith) (square_low y) le))

-- ---- not far below

-- if y b is at most e below a q, a bound for how far the square is below
above_square : (q y t a b e : ℕ) → 0 < q → y * y ≤ (t + 2) * q → y * b ≤ a * q → a * q ≤ y * b + e → a * a * q ≤ t * (b * b) + (2 * a * e + 2 * (b * b))
above_square q y t a b e some high le near =
    let one : y * y * (b * b) ≤ (t + 2) * q * (b * b) = mul-le-mul_right (b * b) high in
    let two : a * q * (a * q) ≤ a * q * (y * b + e) = mul-le-mul_left (a * q) near in
    let three : a * q * (y * b) ≤ (y * b + e) * (y * b) = mul-le-mul_right (y * b) near in
    let four : e * (y * b) ≤ e * (a * q) = mul-le-mul_left e le in
    let all : a * a * q * q ≤ (t * (b * b) + (2 * a * e + 2 * (b * b))) * q = omega (arith, one, two, three, four) in
    le_of_mul-le-mul_right all some

-- a bound for how far n terms may be too low: error_of n / (1 - x)^2 units
unfoldable pub error_of : ℕ → ℕ
error_of zero = 1
error_of (suc n) = 16 + 2 * error_of n

-- a^(2^n)
unfoldable pub repeated : ℕ → ℕ → ℕ
repeated zero a = a
repeated (suc n) a = repeated n (a * a)

-- any number of exact terms is at most 2 x / (1 - x)
bounded_sum : (a d D N : ℕ) → 0 < a + d → d * (a + a + d) * N ≤ 2 * (a * a) * D → d * (a * D + 2 * (a + d) * N) ≤ 2 * a * ((a + d) * D)
bounded_sum a d D N some le =
    let one : 2 * (a + d) * (d * (a + a + d) * N) ≤ 2 * (a + d) * (2 * (a * a) * D) = mul-le-mul_left (2 * (a + d)) le in
    let all : d * (a * D + 2 * (a + d) * N) * (a + a + d) ≤ 2 * a * ((a + d) * D) * (a + a + d) = omega (arith, one) in
    le_of_mul-le-mul_right all (omega arith)

pub bounded : (t a d : ℕ) → 0 < d → d * numerator t a (a + d) ≤ 2 * a * denominator t (a + d)
unfolding denominator numerator
bounded zero a d some = omega arith
bounded (suc t) a d some =
    let square : a * a + d * (a + a + d) ≡ (a + d) * (a + d) = omega arith in
    let more : 1 * 1 ≤ d * (a + a + d) = mul-le 1 1 d (a + a + d) some (omega arith) in
    let rest = bounded t (a * a) (d * (a + a + d)) (omega (arith, more)) in
    bounded_sum a d (denominator t ((a + d) * (a + d))) (numerator t (a * a) ((a + d) * (a + d))) (omega arith) (rw square at rest)

-- the terms that were left out, if the power is small
left_out : (a d D N e : ℕ) → a * 2 ^ 128 ≤ a + d → d * N ≤ 2 * a * D → N * 2 ^ 96 * (d * d) ≤ (0 * (d * d) + 4 * (e * (a + d)) + 1 * ((a + d) * (a + d))) * D
left_out a d D N e small le =
    let one : d * N * (2 ^ 96 * d) ≤ 2 * a * D * (2 ^ 96 * d) = mul-le-mul_right (2 ^ 96 * d) le in
    let two : a * 2 ^ 128 * (D * d) ≤ (a + d) * (D * d) = mul-le-mul_right (D * d) small in
    omega (arith, one, two)

growth_of_error : (a d b s : ℕ) → b ≡ a + d → s ≡ a + b → d * d * (s * s) + 16 * a * (b * (b * b)) ≤ 4 * (b * b) * (s * s)
growth_of_error a d b s eb es = rw (es, eb) (omega arith)

growth : (a d b s e w : ℕ) → b ≡ a + d → s ≡ a + b →
    e * (d * d) * (s * s) + 2 * b * (4 * ((2 * a * e + 2 * (b * b)) * (b * b)) + w * (b * b * (b * b))) ≤ (4 * (e * b) + (16 + 2 * w) * (b * b)) * b * (s * s)
growth a d b s e w eb es =
    let one : e * (d * d * (s * s) + 16 * a * (b * (b * b))) ≤ e * (4 * (b * b) * (s * s)) = mul-le-mul_left e (growth_of_error a d b s eb es) in
    let square : b * b ≤ s * s = mul-le b b s s (omega arith) (omega arith) in
    let two : (16 + 2 * w) * (b * b * b) * (b * b) ≤ (16 + 2 * w) * (b * b * b) * (s * s) = mul-le-mul_left ((16 + 2 * w) * (b * b * b)) square in
    omega (arith, one, two)

above_sum : (q y r a d b s e w D N : ℕ) → b ≡ a + d → s ≡ a + b → 0 < s → a * q ≤ y * b + e →
    N * q * (d * s * (d * s)) ≤ (r * (d * s * (d * s)) + 4 * ((2 * a * e + 2 * (b * b)) * (b * b)) + w * (b * b * (b * b))) * D →
    (a * D + 2 * b * N) * q * (d * d) ≤ ((y + 2 * r) * (d * d) + 4 * (e * b) + (16 + 2 * w) * (b * b)) * (b * D)
above_sum q y r a d b s e w D N eb es some near rest =
    let one : 2 * b * (N * q * (d * s * (d * s))) ≤ 2 * b * ((r * (d * s * (d * s)) + 4 * ((2 * a * e + 2 * (b * b)) * (b * b)) + w * (b * b * (b * b))) * D) = mul-le-mul_left (2 * b) rest in
    let two : a * q * (d * d * (s * s) * D) ≤ (y * b + e) * (d * d * (s * s) * D) = mul-le-mul_right (d * d * (s * s) * D) near in
    let three = mul-le-mul_right D (growth a d b s e w eb es) in
    let all : (a * D + 2 * b * N) * q * (d * d) * (s * s) ≤ ((y + 2 * r) * (d * d) + 4 * (e * b) + (16 + 2 * w) * (b * b)) * (b * D) * (s * s) = omega (arith, one, two, three) in
    le_of_mul-le-mul_right all (let p : 1 * 1 ≤ s * s = mul-le 1 1 s s some some in omega (arith, p))

pub not_below : (n t y a d e : ℕ) → n ≤ t → 0 < d → y * (a + d) ≤ a * 2 ^ 96 → a * 2 ^ 96 ≤ y * (a + d) + e → repeated n a * 2 ^ 128 ≤ repeated n (a + d) →
    numerator t a (a + d) * 2 ^ 96 * (d * d) ≤ (rho_of n y * (d * d) + 4 * (e * (a + d)) + error_of n * ((a + d) * (a + d))) * denominator t (a + d)
unfolding rho_of denominator numerator error_of repeated
not_below zero t y a d e le some below near small = left_out a d (denominator t (a + d)) (numerator t a (a + d)) e small (bounded t a d some)
not_below (suc n) zero y a d e le some below near small = absurd (omega arith)
not_below (suc n) (suc t) y a d e le some below near small =
    let s : ℕ = a + a + d in
    let b : ℕ = a + d in
    let square : a * a + d * s ≡ b * b = omega arith in
    let more : 1 * 1 ≤ d * s = mul-le 1 1 d s some (omega arith) in
    let high : y * y ≤ (square_of y + 2) * 2 ^ 96 = let h = square_high y in omega (arith, h) in
    let low = below_square (2 ^ 96) y (square_of y) a b (omega arith) (square_low y) below in
    let above = above_square (2 ^ 96) y (square_of y) a b e (omega arith) high below near in
    let rest = not_below n t (square_of y) (a * a) (d * s) (2 * a * e + 2 * (b * b)) (omega arith) (omega (arith, more)) (rw square low) (rw square above) (rw square small) in
    above_sum (2 ^ 96) y (rho_of n (square_of y)) a d b s e (error_of n) (denominator t (b * b)) (numerator t (a * a) (b * b)) refl (let e : s ≡ a + b = omega arith in e) (omega arith) near (rw square at rest)

pub error_sum : (n : ℕ) → error_of n + 16 ≡ 17 * 2 ^ n
unfolding error_of
error_sum zero = refl
error_sum (suc n) = let e : 2 ^ suc n ≡ 2 * 2 ^ n = pow-succ' 2 n in omega (arith, error_sum n, e)
