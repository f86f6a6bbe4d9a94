-- SPDX-License-Identifier: Apache-2.0
-- Lemmas on the terms of the series, in fixed point.
use Rattle.std.proofs.Common.{◌≡◌, ℕ, zero, suc, ◌+◌, ◌-◌, ◌*◌, ◌<◌, ◌≤◌, arith}
use Rattle.hll_estimate.specs.FixedPoint.{square_of, rho_of}
use Rattle.hll_estimate.proofs.Squares.{square_grows}

pub rho_none : (t j y : ℕ) → t ≤ j → rho_of (t - j) y ≡ 0
unfolding rho_of
rho_none t j y le = let e : t - j ≡ 0 = omega arith in rw e

pub rho_next : (t j y : ℕ) → j < t → rho_of (t - j) y ≡ y + 2 * rho_of (t - (j + 1)) (square_of y)
unfolding rho_of
rho_next t j y lt = let e : t - j ≡ suc (t - (j + 1)) = omega arith in rw e

-- terms of 0
square_zero : square_of 0 ≡ 0
unfolding square_of
square_zero = omega arith

rho_zero : (n : ℕ) → rho_of n 0 ≡ 0
unfolding rho_of
rho_zero zero = omega arith
rho_zero (suc n) = let r = rho_zero n in rw (square_zero, r) (omega arith)

-- what is left adds nothing
pub rho_ends : (n s w y whole : ℕ) → y ≡ 0 → s + w * rho_of n y ≡ whole → s ≡ whole
rho_ends n s w y whole is e =
    let r = rho_zero n in
    let at_zero : s + w * rho_of n 0 ≡ whole = rw is at e in
    let none : s + w * 0 ≡ whole = rw r at at_zero in
    omega (arith, none)

-- one more term
pub one_more : (s w y v r whole : ℕ) → s + w * v ≡ whole → v ≡ y + 2 * r → s + y * w + 2 * w * r ≡ whole
one_more s w y v r whole e is = let f : s + w * (y + 2 * r) ≡ whole = rw is at e in omega (arith, f)

-- a larger part has a larger sum; the difference is at least that of the parts
pub rho_grows : (n y z d : ℕ) → y + d ≤ z → rho_of n y + d ≤ rho_of n z + d
unfolding rho_of
rho_grows zero y z d le = omega arith
rho_grows (suc n) y z d le =
    let s : square_of y + 0 ≤ square_of z = let t : square_of y ≤ square_of z = square_grows y z (omega arith) in omega (arith, t) in
    let g = rho_grows n (square_of y) (square_of z) 0 s in
    omega (arith, g)

pub rho_rises : (n y z d : ℕ) → y + d ≤ z → rho_of (suc n) y + d ≤ rho_of (suc n) z
unfolding rho_of
rho_rises n y z d le =
    let t : square_of y ≤ square_of z = square_grows y z (omega arith) in
    let g = rho_grows n (square_of y) (square_of z) 0 (omega (arith, t)) in
    omega (arith, g)
