-- SPDX-License-Identifier: Apache-2.0
-- What calls report of an estimate (docs/MODEL.md, "Estimates").
use Rattle.std.specs.Prelude.{◌≡◌, ℕ, ◌+◌, ◌-◌, ◌^◌, ◌≤◌, List, [], ◌∷◌, ◌++◌, length, replicate, sum}
use Rattle.std.specs.FinSet.{len}
use Rattle.hll_base.specs.declared.error.Reason.{Reason}
use Rattle.hll_base.specs.declared.error.Reason.TheVariants.{Argument}
use Rattle.hll_estimate.specs.Double.{IsDoubleOf}
use Rattle.hll_estimate.specs.Estimate.{IsEstimate}
use Rattle.hll_estimate.specs.Monotone.{fixed_point_estimate_of}
use Rattle.hll_estimate.specs.declared.estimate.Estimate.{Estimate}
use Rattle.hll_kernels.specs.Packed.{AreRegisters, zeros, units}
use Rattle.hll_sketch.specs.Image.{IsReadAs}
use Rattle.hll_sketch.specs.Value.{Sketch, Content, coupons, registers, IsLgK}
use Rattle.hll_c.specs.ByteRegisters.{IsLgKOf}
use Rattle.hll_c.specs.Info.{AreCountsOf}
use Rattle.hll_c.specs.declared.estimate.HllEstimate.{HllEstimate}

-- the double nearest to the estimate of 2^k registers, the number of registers, and how many of them are above 0
pub record IsEstimateOfRegisters (k : ℕ) (R : List ℕ) (e : HllEstimate) : Type 0 where
  pub estimate : Estimate
  pub near : IsEstimate k (zeros R) (units R) estimate
  pub fixed_point : estimate ≡ fixed_point_estimate_of k R
  pub nearest : IsDoubleOf e.bits estimate
  pub count : e.registers ≡ 2 ^ k
  pub above : e.seen ≡ 2 ^ k - zeros R

-- for coupons: their number
pub record IsEstimateOfCoupons (count : ℕ) (e : HllEstimate) : Type 0 where
  pub no_bits : e.bits ≡ 0
  pub no_registers : e.registers ≡ 0
  pub all : e.seen ≡ count

abbrev pub IsEstimateOfContent : ℕ → Content → HllEstimate → Type 0
IsEstimateOfContent k (coupons S size) e = IsEstimateOfCoupons (len S) e
IsEstimateOfContent k (registers R state) e = IsEstimateOfRegisters k R e

-- what is reported of an image
pub record SaysEstimate (image : List ℕ) (e : HllEstimate) : Type 0 where
  pub sketch : Sketch
  pub read : IsReadAs image sketch
  pub says : IsEstimateOfContent sketch.lg_k sketch.content e

-- what is reported of caller-owned registers
pub record SaysEstimateOfBytes (R : List ℕ) (e : HllEstimate) : Type 0 where
  pub lg_k : ℕ
  pub of : IsLgKOf R lg_k
  pub are : AreRegisters lg_k R
  pub says : IsEstimateOfRegisters lg_k R e

-- ---- counts of registers

-- registers that have these counts: for each value from the first on, that many registers
abbrev pub registers_of_counts : ℕ → List ℕ → List ℕ
registers_of_counts value [] = []
registers_of_counts value (count ∷ counts) = replicate count value ++ registers_of_counts (value + 1) counts

-- the counts sum to the number of registers of an lg_k
pub record SumToLgK (counts : List ℕ) (k : ℕ) : Type 0 where
  pub is : IsLgK k
  pub sum_is : sum counts ≡ 2 ^ k

-- what is reported of registers that have these counts of values
pub record SaysEstimateOfCounts (counts : List ℕ) (e : HllEstimate) : Type 0 where
  pub lg_k : ℕ
  pub sum_to : SumToLgK counts lg_k
  pub registers : List ℕ
  pub are : AreRegisters lg_k registers
  pub counted : AreCountsOf registers counts
  pub says : IsEstimateOfRegisters lg_k registers e

-- counts of any other number of registers are rejected
pub record RefusesCounts (counts : List ℕ) (r : Reason) : Type 0 where
  pub is : r ≡ Argument
  pub no_lg_k : (k : ℕ) → SumToLgK counts k → ⊥

-- The sums over counts of the values 0 to 63: the number of registers, at most 2^21, and the sum of 2^(63 - value) over them.
pub record AreTotalsOfCounts (counts : List ℕ) (total sum_of_units : ℕ) : Type 0 where
  pub each_value : length counts ≡ 64
  pub total_is : total ≡ sum counts
  pub few : total ≤ 2 ^ 21
  pub units_are : sum_of_units ≡ units (registers_of_counts 0 counts)
