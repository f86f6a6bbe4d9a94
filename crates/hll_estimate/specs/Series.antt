-- SPDX-License-Identifier: Apache-2.0
-- The series of Ertl's estimator, exactly (docs/NUMBERS.md, "Estimates"): σ(x) = (x + ρ(x)) / 2, where
-- ρ(x) = x + 2 x² + 4 x⁴ + 8 x⁸ + .. ≡ x + 2 ρ(x²).
use Rattle.std.specs.Prelude.{ℕ, zero, suc, ◌+◌, ◌*◌}

-- the first n terms of ρ(a / b) are numerator n a b / denominator n b
unfoldable pub denominator : ℕ → ℕ → ℕ
denominator zero b = 1
denominator (suc n) b = b * denominator n (b * b)

unfoldable pub numerator : ℕ → ℕ → ℕ → ℕ
numerator zero a b = 0
numerator (suc n) a b = a * denominator n (b * b) + 2 * b * numerator n (a * a) (b * b)
