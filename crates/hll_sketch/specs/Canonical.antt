-- SPDX-License-Identifier: Apache-2.0
-- Canonical sketches (docs/MODEL.md, "Convergence").
use Rattle.std.specs.Prelude.{◌≡◌, ℕ, Some}
use Rattle.std.specs.FinSet.{len}
use Rattle.hll_registers.specs.State.{cleared_state}
use Rattle.hll_sketch.specs.PlainStates.{HasPlainState}
use Rattle.hll_sketch.specs.Stage.{stage}
use Rattle.hll_sketch.specs.Value.{Sketch, Content, coupons, registers}

-- coupons in the smallest table that holds them, or registers whose estimator fields are cleared or follow from the registers
abbrev pub IsCanonicalContent : ℕ → Content → Type 0
IsCanonicalContent k (coupons S size) = stage k 3 (len S) ≡ Some size
IsCanonicalContent k (registers R state) = HasPlainState (registers R state)

abbrev pub IsCanonical : Sketch → Type 0
IsCanonical x = IsCanonicalContent x.lg_k x.content

-- canonical, and registers have the cleared estimate state
abbrev pub IsCanonicalClearedContent : ℕ → Content → Type 0
IsCanonicalClearedContent k (coupons S size) = IsCanonicalContent k (coupons S size)
IsCanonicalClearedContent k (registers R state) = state ≡ cleared_state

abbrev pub IsCanonicalCleared : Sketch → Type 0
IsCanonicalCleared x = IsCanonicalClearedContent x.lg_k x.content
