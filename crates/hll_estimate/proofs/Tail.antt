-- SPDX-License-Identifier: Apache-2.0
-- Lemmas on the exact terms: which powers are small, and a lower bound of the sum.
use Rattle.std.proofs.Common.{◌≡◌, ℕ, zero, suc, ◌+◌, ◌*◌, ◌^◌, ◌<◌, ◌≤◌, sym, ap, ◌∙◌, refl, arith}
use Rattle.std.proofs.Math.Nat.{mul-le-mul_left, mul-le-mul_right, le_of_mul-le-mul_right, pow-suc, pow-zero, pow-le-pow_left, two-pow-succ}
use Rattle.std.proofs.lemmas.Nat.{mul-le, pow-add, mul-pow}
use Rattle.hll_estimate.specs.Series.{denominator, numerator}
use Rattle.hll_estimate.proofs.SeriesBounds.{repeated}

bernoulli : (c j : ℕ) → c ^ j * (c + j) ≤ c * (c + 1) ^ j
bernoulli c zero = rw (pow-zero c, pow-zero (c + 1)) (omega arith)
bernoulli c (suc j) =
    let one : c ^ j * (c + j) * (c + 1) ≤ c * (c + 1) ^ j * (c + 1) = mul-le-mul_right (c + 1) (bernoulli c j) in
    rw (pow-suc c j, pow-suc (c + 1) j) (omega (arith, one))

half : (c m : ℕ) → 0 < c → c < m → 2 * c ^ m ≤ m ^ m
half c m some lt =
    let more : (c + 1) ^ m ≤ m ^ m = pow-le-pow_left (let e : c + 1 ≤ m = omega arith in e) m in
    let one : c * (c + 1) ^ m ≤ c * m ^ m = mul-le-mul_left c more in
    let two : c ^ m * (2 * c) ≤ c ^ m * (c + m) = mul-le-mul_left (c ^ m) (omega arith) in
    let all : 2 * c ^ m * c ≤ m ^ m * c = omega (arith, one, two, bernoulli c m) in
    le_of_mul-le-mul_right all some

pub repeated_power : (n a : ℕ) → repeated n a ≡ a ^ (2 ^ n)
unfolding repeated
repeated_power zero a = (let e : a ≡ 1 * a = omega arith in e) ∙ ap (λ x. x * a) (sym (pow-zero a)) ∙ sym (pow-suc a 0)
repeated_power (suc n) a = repeated_power n (a * a) ∙ mul-pow a a (2 ^ n) ∙ sym (pow-add a (2 ^ n) (2 ^ n)) ∙ ap (λ i. a ^ i) (sym (two-pow-succ n))

-- a fraction with denominator 2^k that is below 1, to the power 2^k, is at most a half
pub small_half : (k c : ℕ) → 0 < c → c < 2 ^ k → repeated k c * 2 ≤ repeated k (2 ^ k)
small_half k c some lt = rw (repeated_power k c, repeated_power k (2 ^ k)) (let h = half c (2 ^ k) some lt in omega (arith, h))

pow_times : (a i j : ℕ) → a ^ (i * j) ≡ (a ^ i) ^ j
pow_times a i zero = ap (λ n. a ^ n) (let e : i * 0 ≡ 0 = omega arith in e) ∙ pow-zero a ∙ sym (pow-zero (a ^ i))
pow_times a i (suc j) =
    ap (λ n. a ^ n) (let e : i * suc j ≡ i * j + i = omega arith in e) ∙ pow-add a (i * j) i ∙ ap (λ x. x * a ^ i) (pow_times a i j) ∙ sym (pow-suc (a ^ i) j)

raised : (x y j : ℕ) → 2 * x ≤ y → x ^ j * 2 ^ j ≤ y ^ j
raised x y j le = let p : (2 * x) ^ j ≤ y ^ j = pow-le-pow_left le j in omega (arith, p, mul-pow 2 x j)

-- and to the power 2^(k + 7), at most 2^-128
pub small_power : (k c : ℕ) → 0 < c → c < 2 ^ k → repeated (k + 7) c * 2 ^ 128 ≤ repeated (k + 7) (2 ^ k)
small_power k c some lt =
    let m : ℕ = 2 ^ k in
    let split = λ (a : ℕ). repeated_power (k + 7) a ∙ ap (λ i. a ^ i) (pow-add 2 k 7) ∙ pow_times a m 128 in
    rw (split c, split m) (raised (c ^ m) (m ^ m) 128 (half c m some lt))

-- ---- the sum is at least x / (1 - x) / 2

least_last : (a d b D N : ℕ) → b ≡ a + d → a * 2 ≤ b → a * (b * D) ≤ 2 * d * (a * D + 2 * b * N)
least_last a d b D N eb le =
    let one : a * D * b ≤ a * D * (2 * d) = mul-le-mul_left (a * D) (omega arith) in
    omega (arith, one)

least_sum : (a d b s D N : ℕ) → b ≡ a + d → s ≡ a + b → 0 < s → a * a * D ≤ 2 * (d * s) * N → a * (b * D) ≤ 2 * d * (a * D + 2 * b * N)
least_sum a d b s D N eb es some le =
    let one : 2 * b * (a * a * D) ≤ 2 * b * (2 * (d * s) * N) = mul-le-mul_left (2 * b) le in
    let grows : b * s ≤ 2 * d * s + 2 * a * b = rw (es, eb) (omega arith) in
    let two : a * D * (b * s) ≤ a * D * (2 * d * s + 2 * a * b) = mul-le-mul_left (a * D) grows in
    let all : a * (b * D) * s ≤ 2 * d * (a * D + 2 * b * N) * s = omega (arith, one, two) in
    le_of_mul-le-mul_right all some

pub least : (n t a d : ℕ) → n < t → 0 < d → repeated n a * 2 ≤ repeated n (a + d) → a * denominator t (a + d) ≤ 2 * d * numerator t a (a + d)
unfolding denominator numerator repeated
least n zero a d lt some small = absurd (omega arith)
least zero (suc t) a d lt some small = least_last a d (a + d) (denominator t ((a + d) * (a + d))) (numerator t (a * a) ((a + d) * (a + d))) refl small
least (suc n) (suc t) a d lt some small =
    let b : ℕ = a + d in
    let s : ℕ = a + b in
    let square : a * a + d * s ≡ b * b = omega arith in
    let more : 1 * 1 ≤ d * s = mul-le 1 1 d s some (omega arith) in
    let rest = least n t (a * a) (d * s) (omega arith) (omega (arith, more)) (rw square small) in
    least_sum a d b s (denominator t (b * b)) (numerator t (a * a) (b * b)) refl refl (omega arith) (rw square at rest)

pub none : (t b : ℕ) → numerator t 0 b ≡ 0
unfolding numerator
none zero b = refl
none (suc t) b = ap (λ x. 0 * denominator t (b * b) + 2 * b * x) (none t (b * b)) ∙ (let e : 0 * denominator t (b * b) + 2 * b * 0 ≡ 0 = omega arith in e)
