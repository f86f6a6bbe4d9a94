-- SPDX-License-Identifier: Apache-2.0
-- Lemmas on the square in fixed point.
use Rattle.std.proofs.Common.{◌≡◌, ℕ, ◌+◌, ◌-◌, ◌*◌, ◌/◌, ◌%◌, ◌^◌, ◌<◌, ◌≤◌, inl, inr, arith}
use Rattle.std.proofs.Math.Nat.{mul-le-mul_left, mul-le-mul_right}
use Rattle.std.proofs.lemmas.Bool.{cases_lt}
use Rattle.std.proofs.lemmas.Nat.{mul-le}
use Rattle.hll_estimate.specs.FixedPoint.{square_of}

low_of_parts : (h l t : ℕ) → t * 2 ^ 48 ≤ 2 * h * l → (h * h + t) * 2 ^ 96 ≤ (h * 2 ^ 48 + l) * (h * 2 ^ 48 + l)
low_of_parts h l t e = omega arith

high_of_parts : (h l t : ℕ) → l < 2 ^ 48 → 2 * h * l < (t + 1) * 2 ^ 48 → (h * 2 ^ 48 + l) * (h * 2 ^ 48 + l) < (h * h + t + 2) * 2 ^ 96
high_of_parts h l t small e = let s : l * l ≤ 2 ^ 48 * l = mul-le-mul_right l (omega arith) in omega (arith, s)

pub square_low : (y : ℕ) → square_of y * 2 ^ 96 ≤ y * y
unfolding square_of
square_low y =
    let h : ℕ = y / 2 ^ 48 in
    let l : ℕ = y % 2 ^ 48 in
    let parts : h * 2 ^ 48 + l ≡ y = omega arith in
    let p = low_of_parts h l (2 * h * l / 2 ^ 48) (omega arith) in
    rw parts at p

pub square_high : (y : ℕ) → y * y < (square_of y + 2) * 2 ^ 96
unfolding square_of
square_high y =
    let h : ℕ = y / 2 ^ 48 in
    let l : ℕ = y % 2 ^ 48 in
    let parts : h * 2 ^ 48 + l ≡ y = omega arith in
    let p = high_of_parts h l (2 * h * l / 2 ^ 48) (omega arith) (omega arith) in
    rw parts at p

-- the square of a number below 1 is below 1
pub square_small : (y : ℕ) → y < 2 ^ 96 → square_of y < 2 ^ 96
square_small y small =
    let s : y * y ≤ (2 ^ 96 - 1) * 2 ^ 96 = mul-le y y (2 ^ 96 - 1) (2 ^ 96) (omega arith) (omega arith) in
    omega (arith, s, square_low y)

-- the larger of two numbers has the larger square
grows_within : (h l j : ℕ) → l ≤ j → h * h + 2 * h * l / 2 ^ 48 ≤ h * h + 2 * h * j / 2 ^ 48
grows_within h l j le =
    let more : h * l ≤ h * j = mul-le-mul_left h le in
    let q : 2 * h * l / 2 ^ 48 ≤ 2 * h * j / 2 ^ 48 = omega (arith, more) in
    omega (arith, q)

grows_past : (h l i j : ℕ) → l < 2 ^ 48 → h < i → h * h + 2 * h * l / 2 ^ 48 ≤ i * i + 2 * i * j / 2 ^ 48
grows_past h l i j small lt =
    let most : h * l ≤ h * 2 ^ 48 = mul-le-mul_left h (omega arith) in
    let q : 2 * h * l / 2 ^ 48 ≤ 2 * h = omega (arith, most) in
    let next : (h + 1) * (h + 1) ≤ i * i = mul-le (h + 1) (h + 1) i i (omega arith) (omega arith) in
    omega (arith, q, next)

pub square_grows : (y z : ℕ) → y ≤ z → square_of y ≤ square_of z
unfolding square_of
square_grows y z le = elim (cases_lt (y / 2 ^ 48) (z / 2 ^ 48)) [
  | inl lt ↦ grows_past (y / 2 ^ 48) (y % 2 ^ 48) (z / 2 ^ 48) (z % 2 ^ 48) (omega arith) lt
  | inr ge ↦
      let e : z / 2 ^ 48 ≡ y / 2 ^ 48 = omega arith in
      rw e (grows_within (y / 2 ^ 48) (y % 2 ^ 48) (z % 2 ^ 48) (omega arith))
]
