-- SPDX-License-Identifier: Apache-2.0
-- The estimate in fixed point. It is the same on every processor, and monotone. What it means is in Estimate.antt.
use Rattle.std.specs.Prelude.{ℕ, zero, suc, ◌+◌, ◌-◌, ◌*◌, ◌/◌, ◌%◌, ◌^◌, ◌≤◌, ◌<◌, ◌==◌, max, if◌then◌else◌}
use Rattle.hll_estimate.specs.declared.estimate.Estimate.{Estimate}
use Rattle.hll_estimate.specs.declared.estimate.Estimate.TheVariants.{Finite, Infinite}
use Rattle.hll_estimate.specs.Estimate.{bias_of, least_estimate}

-- the bounds of c and u: c registers have the weight 1, each other register a weight of 2^-63 to 1 / 2
pub record AreBounded (k c u : ℕ) : Type 0 where
  pub least : 4 ≤ k
  pub most : k ≤ 21
  pub some : c < 2 ^ k
  pub low : c * 2 ^ 63 + (2 ^ k - c) ≤ u
  pub high : u ≤ c * 2 ^ 63 + (2 ^ k - c) * 2 ^ 62

-- the square of a number below 1 in units of 2^-96, less than two units too low
unfoldable pub square_of : ℕ → ℕ
square_of y = (y / 2 ^ 48) * (y / 2 ^ 48) + 2 * (y / 2 ^ 48) * (y % 2 ^ 48) / 2 ^ 48

-- n terms of ρ at y, in units of 2^-96
unfoldable pub rho_of : ℕ → ℕ → ℕ
rho_of zero y = 0
rho_of (suc n) y = y + 2 * rho_of n (square_of y)

-- 1 / (ln 2 (1 + e / m)), in units of 2^-48
unfoldable pub twice_alpha_of : ℕ → ℕ → ℕ
twice_alpha_of k c = 20304127651739994 * (2 ^ k * 2 ^ k * 2 ^ k) / bias_of (2 ^ k) c

-- 2 z, in units of 2^-63
unfoldable pub twice_weight_of : ℕ → ℕ → ℕ → ℕ
twice_weight_of k c u = (2 * u - c * 2 ^ 63) + rho_of (k + 7) (c * 2 ^ (96 - k)) / 2 ^ (33 - k)

-- m² / (2 ln 2 z (1 + e / m)), in units of 2^-32
unfoldable pub raw_estimate_of : ℕ → ℕ → ℕ → ℕ
raw_estimate_of k c u = twice_alpha_of k c * 2 ^ (2 * k + 47) / twice_weight_of k c u

-- the estimate
abbrev pub fixed_point_estimate : ℕ → ℕ → ℕ → Estimate
fixed_point_estimate k c u =
    if c == 2 ^ k then (Finite 0) else (if u == 2 ^ k then Infinite else (Finite (max (raw_estimate_of k c u) (least_estimate k c))))
