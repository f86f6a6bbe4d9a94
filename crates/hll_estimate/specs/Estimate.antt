-- SPDX-License-Identifier: Apache-2.0
-- The estimate of 2^k registers, of which c are 0, and whose weights 2^-v sum to u units of 2^-63 (docs/NUMBERS.md,
-- "Estimates", without τ: the weight of a register of 63 is 2^-63).
use Rattle.std.specs.Prelude.{◌≡◌, ℕ, ◌+◌, ◌-◌, ◌*◌, ◌^◌, ◌≤◌, ◌<◌, max, List}
use Rattle.hll_kernels.specs.Packed.{AreRegisters, zeros, units}
use Rattle.hll_estimate.specs.declared.estimate.Estimate.{Estimate}
use Rattle.hll_estimate.specs.declared.estimate.Estimate.TheVariants.{Finite, Infinite}
use Rattle.hll_estimate.specs.Series.{denominator, numerator}

-- c and u are those of some 2^k registers
pub record AreOfRegisters (k c u : ℕ) : Type 0 where
  pub least : 4 ≤ k
  pub most : k ≤ 21
  pub registers : List ℕ
  pub are_registers : AreRegisters k registers
  pub zero_count : c ≡ zeros registers
  pub weight : u ≡ units registers

-- ---- exactly, as a fraction

-- 50 m³ (1 + e / m) for m registers, where e = 0.5 + 0.58 (1 - c / m)² removes the bias
unfoldable pub bias_of : ℕ → ℕ → ℕ
bias_of m c = 50 * (m * m * m) + 25 * (m * m) + 29 * ((m - c) * (m - c))

-- 2 z in units of 2^-63, with t terms of the series: weight_over / weight_under. z is the sum of the weights, in which
-- the registers of 0 have the weight m σ(c / m)
unfoldable pub weight_over : ℕ → ℕ → ℕ → ℕ → ℕ
weight_over t k c u = (2 * u - c * 2 ^ 63) * denominator t (2 ^ k) + 2 ^ 63 * 2 ^ k * numerator t c (2 ^ k)

abbrev pub weight_under : ℕ → ℕ → ℕ
weight_under t k = denominator t (2 ^ k)

-- m² / (2 ln 2 z (1 + e / m)) in units of 2^-32, with t terms: estimate_over / estimate_under. 1.442695040888963407
-- stands for 1 / ln 2
unfoldable pub estimate_over : ℕ → ℕ → ℕ
estimate_over t k = 50 * 1442695040888963407 * (2 ^ k * 2 ^ k * 2 ^ k) * (2 ^ k * 2 ^ k) * 2 ^ 95 * weight_under t k

unfoldable pub estimate_under : ℕ → ℕ → ℕ → ℕ → ℕ
estimate_under t k c u = 10 ^ 18 * bias_of (2 ^ k) c * weight_over t k c u

-- the number of registers above 0, in units of 2^-32: each of them had at least one value
abbrev pub least_estimate : ℕ → ℕ → ℕ
least_estimate k c = (2 ^ k - c) * 2 ^ 32

-- ---- nearness

-- n is the fraction over / under rounded down, up to one part in 2^40
pub record IsNear (n over under : ℕ) : Type 0 where
  pub fraction : 0 < under
  pub not_above : n * under * 2 ^ 40 ≤ over * (2 ^ 40 + 1)
  pub not_below : over * (2 ^ 40 - 1) ≤ (n + 1) * under * 2 ^ 40

-- n is near the exact estimate, or it is the number of registers above 0 if that is greater, however many more terms are summed
pub record IsFiniteEstimate (k c u n : ℕ) : Type 0 where
  pub least : least_estimate k c ≤ n
  pub near : (t : ℕ) → k + 7 ≤ t
      → IsNear n (max (estimate_over t k) (least_estimate k c * estimate_under t k c u)) (estimate_under t k c u)

-- 0 if all registers are 0, infinite if all are 63, else finite and near
pub data IsEstimate (k c u : ℕ) : Estimate → Type 0 where
  none : c ≡ 2 ^ k → IsEstimate k c u (Finite 0)
  all_greatest : u ≡ 2 ^ k → IsEstimate k c u Infinite
  finite : {n : ℕ} → c < 2 ^ k → 2 ^ k < u → IsFiniteEstimate k c u n → IsEstimate k c u (Finite n)
