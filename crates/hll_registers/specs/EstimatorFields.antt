-- SPDX-License-Identifier: Apache-2.0
-- The fields that a composite estimator reads (docs/FORMAT.md, "Estimator fields").
use Rattle.std.specs.Prelude.{◌≡◌, ℕ, ◌+◌, ◌*◌, ◌/◌, ◌%◌, ◌^◌, ◌<◌, ◌≤◌, true, List, slice_index}
use Rattle.hll_kernels.specs.Packed.{low_units, high_units}
use Rattle.hll_registers.specs.declared.estimate_state.EstimateState.{EstimateState}
use Rattle.hll_registers.specs.State.{IsState}

-- the 64 bits are those of a normal binary64 number with sign 0, exponent E and fraction F: (2^52 + F) * 2^(E - 1075) ≡ n / 2^s
pub record IsNormal (word n s : ℕ) : Type 0 where
  pub least : 1 ≤ word / 2 ^ 52
  pub most : word / 2 ^ 52 ≤ 2046
  pub value : (2 ^ 52 + word % 2 ^ 52) * 2 ^ (word / 2 ^ 52 + s) ≡ n * 2 ^ 1075

-- the 64 bits are those of the binary64 number n / 2^s, exactly; all bits are 0 for 0
pub record IsBinary64 (word n s : ℕ) : Type 0 where
  pub zero : n ≡ 0 → word ≡ 0
  pub normal : 0 < n → IsNormal word n s

-- the state of registers that a composite estimator computes from: hipAccum is 0, kxq0 is the sum of 2^-v over the
-- registers v below 32, kxq1 the sum over those from 32 on, and the flag is set
pub record AreEstimatorFields (R : List ℕ) (state : EstimateState) : Type 0 where
  pub legal : IsState state
  pub hip : slice_index state.words 0 ≡ 0
  pub low : IsBinary64 (slice_index state.words 1) (low_units R) 31
  pub high : IsBinary64 (slice_index state.words 2) (high_units R) 63
  pub composite : state.out_of_order ≡ true

-- ---- laws

-- registers have one such state
abbrev pub OneEstimatorState : Type 0
OneEstimatorState = (R : List ℕ) (s t : EstimateState) → AreEstimatorFields R s → AreEstimatorFields R t → s ≡ t
