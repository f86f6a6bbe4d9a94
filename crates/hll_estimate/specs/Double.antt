-- SPDX-License-Identifier: Apache-2.0
-- Finite binary64 numbers with sign 0, in units of 2^-1075, given by their 64 bits as a number.
use Rattle.std.specs.Prelude.{◌≡◌, ◌≢◌, ℕ, ◌+◌, ◌-◌, ◌*◌, ◌/◌, ◌%◌, ◌^◌, ◌≤◌, ◌==◌, if◌then◌else◌}
use Rattle.hll_estimate.specs.declared.estimate.Estimate.{Estimate}
use Rattle.hll_estimate.specs.declared.estimate.Estimate.TheVariants.{Finite, Infinite}

-- the number with an exponent and a fraction: normal, or subnormal if the exponent is 0
abbrev pub value_of : ℕ → ℕ
value_of bits =
    if bits / 2 ^ 52 == 0 then (2 * bits) else ((2 ^ 52 + bits % 2 ^ 52) * 2 ^ (bits / 2 ^ 52))

abbrev pub IsFinite : ℕ → Type 0
IsFinite bits = bits / 2 ^ 52 ≤ 2046

-- the difference of the number and n / 2^32
abbrev pub distance : ℕ → ℕ → ℕ
distance n bits = (value_of bits - n * 2 ^ 1043) + (n * 2 ^ 1043 - value_of bits)

-- no finite number is nearer, and if two are equally near it is the one whose bits are even
pub record IsNearest (bits n : ℕ) : Type 0 where
  pub is_finite : IsFinite bits
  pub nearest : (other : ℕ) → IsFinite other → distance n bits ≤ distance n other
  pub even : (other : ℕ) → IsFinite other → other ≢ bits → distance n other ≡ distance n bits → bits % 2 ≡ 0

-- the nearest number, or infinity
abbrev pub IsDoubleOf : ℕ → Estimate → Type 0
IsDoubleOf bits (Finite n) = IsNearest bits n
IsDoubleOf bits Infinite = bits ≡ 2047 * 2 ^ 52
