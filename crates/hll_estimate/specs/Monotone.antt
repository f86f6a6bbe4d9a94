-- SPDX-License-Identifier: Apache-2.0
-- Estimates are monotone in the registers.
use Rattle.std.specs.Prelude.{ℕ, ◌≤◌, List}
use Rattle.std.specs.List.{AllZip}
use Rattle.hll_base.specs.Join.{join}
use Rattle.hll_kernels.specs.Packed.{AreRegisters, zeros, units}
use Rattle.hll_estimate.specs.declared.estimate.Estimate.{Estimate}
use Rattle.hll_estimate.specs.declared.estimate.Estimate.TheVariants.{Finite, Infinite}
use Rattle.hll_estimate.specs.Double.{IsDoubleOf}
use Rattle.hll_estimate.specs.FixedPoint.{fixed_point_estimate}

-- the estimate of registers
abbrev pub fixed_point_estimate_of : ℕ → List ℕ → Estimate
fixed_point_estimate_of k R = fixed_point_estimate k (zeros R) (units R)

-- an estimate is at most another
abbrev pub IsAtMost : Estimate → Estimate → Type 0
IsAtMost x Infinite = Unit {0}
IsAtMost Infinite (Finite n) = ⊥
IsAtMost (Finite m) (Finite n) = m ≤ n

-- ---- laws

-- if each register is at least another's, so is the estimate
abbrev pub RaisingNeverLowers : Type 0
RaisingNeverLowers = (k : ℕ) (R Q : List ℕ) → 4 ≤ k → k ≤ 21 → AreRegisters k R → AreRegisters k Q
    → AllZip (λ v w. v ≤ w) R Q → IsAtMost (fixed_point_estimate_of k R) (fixed_point_estimate_of k Q)

-- the estimate of a union of registers is at least that of each part
pub record IsAtLeastParts (k : ℕ) (R Q : List ℕ) : Type 0 where
  pub first : IsAtMost (fixed_point_estimate_of k R) (fixed_point_estimate_of k (join R Q))
  pub second : IsAtMost (fixed_point_estimate_of k Q) (fixed_point_estimate_of k (join R Q))

abbrev pub UnionNeverBelowParts : Type 0
UnionNeverBelowParts = (k : ℕ) (R Q : List ℕ) → 4 ≤ k → k ≤ 21 → AreRegisters k R → AreRegisters k Q → IsAtLeastParts k R Q

-- the nearest binary64 number of an estimate that is at least another is at least the other's: so are its bits, since the bits of
-- a number that isn't negative rise with it
abbrev pub DoublesNeverFall : Type 0
DoublesNeverFall = (bits more : ℕ) (x y : Estimate) → IsDoubleOf bits x → IsDoubleOf more y → IsAtMost x y → bits ≤ more
