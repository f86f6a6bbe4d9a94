-- SPDX-License-Identifier: Apache-2.0
-- The number of values that are 0, in lanes.
use Rattle.std.specs.Prelude.{◌≡◌, ℕ, ◌*◌, ◌≤◌, List, length}
use Rattle.std.specs.Simd.Lanes.{sum_l, Each1}
use Rattle.hll_kernels.specs.declared.kernels.RunningZeros.{RunningZeros}
use Rattle.hll_kernels.specs.Packed.{zeros}

-- 64 counts of the values that are 0, each at most the number of blocks of 64 values
pub record AreRunningZeros (counted : RunningZeros) (R : List ℕ) : Type 0 where
  pub count : sum_l counted.counts ≡ zeros R
  pub lanes : length counted.counts ≡ 64
  pub small : Each1 (λ n. 64 * n ≤ length R) counted.counts
