-- SPDX-License-Identifier: Apache-2.0
-- The sums of the weights of registers, in the two parts that estimator fields have (docs/MODEL.md, "Packed forms").
use Rattle.std.specs.Prelude.{◌≡◌, ℕ, ◌+◌, ◌*◌, ◌≤◌, List, length}
use Rattle.std.specs.Simd.Lanes.{sum_l}
use Rattle.hll_kernels.specs.declared.kernels.RunningSums.{RunningSums}
use Rattle.hll_kernels.specs.declared.kernels.WeightSums.{WeightSums}
use Rattle.hll_kernels.specs.Packed.{low_units, high_units}

-- the sum over the registers below 32, and the sum over the other registers
pub record AreSumsOf (sums : WeightSums) (R : List ℕ) : Type 0 where
  pub low : sums.low ≡ low_units R
  pub high : sums.high ≡ high_units R

-- the sums over the registers, of which those below 16 may be in eight lanes: the upper bytes and the lower bytes of 2^(15 - v)
pub record AreRunningSums (sums : RunningSums) (R : List ℕ) : Type 0 where
  pub low : 65536 * (256 * sum_l sums.upper + sum_l sums.lower) + sums.others.low ≡ low_units R
  pub high : sums.others.high ≡ high_units R
  pub lower_bytes : sum_l sums.lower ≤ 255 * length R
  pub upper_lanes : length sums.upper ≡ 8
  pub lower_lanes : length sums.lower ≡ 8
