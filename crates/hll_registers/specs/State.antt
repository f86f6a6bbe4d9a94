-- SPDX-License-Identifier: Apache-2.0
-- The estimate state (docs/MODEL.md, "Estimate state").
use Rattle.std.specs.Prelude.{◌≡◌, ℕ, ◌^◌, ◌<◌, nat_eq, true, if◌then◌else◌, List, [], ◌∷◌, length, All}
use Rattle.std.specs.Cmp.Lexicographic.{pointwise}
use Rattle.hll_registers.specs.declared.estimate_state.EstimateState.{EstimateState}

-- three numbers of 64 bits
pub record IsState (state : EstimateState) : Type 0 where
  pub three : length state.words ≡ 3
  pub words : All (λ w. w < 2 ^ 64) state.words

-- three zeros, and the flag set
abbrev pub cleared_state : EstimateState
cleared_state = record { words = 0 ∷ 0 ∷ 0 ∷ []; out_of_order = true }

-- the state after an update of registers: the same if no register changed, else cleared
abbrev pub state_after : List ℕ → List ℕ → EstimateState → EstimateState
state_after old new state = if pointwise nat_eq old new then state else cleared_state
