-- SPDX-License-Identifier: Apache-2.0
-- What the coupons or the registers of a sketch add up to (docs/MODEL.md, "Calls over images").
use Rattle.std.specs.Prelude.{◌≡◌, ℕ, List}
use Rattle.std.specs.FinSet.{len}
use Rattle.hll_coupons.specs.Pair.{Pairs}
use Rattle.hll_kernels.specs.Packed.{AreRegisters, zeros, units}
use Rattle.hll_sketch.specs.Value.{Sketch, coupons, registers}
use Rattle.hll_sketch.specs.declared.totals.RegisterTotals.{RegisterTotals}
use Rattle.hll_sketch.specs.declared.totals.Totals.{Totals}
use Rattle.hll_sketch.specs.declared.totals.Totals.TheVariants as variants

-- the sketch has this number of coupons, in a table of 2^size buckets
pub record AreCouponTotals (x : Sketch) (size count : ℕ) : Type 0 where
  pub pairs : Pairs
  pub content : x.content ≡ coupons pairs size
  pub number : len pairs ≡ count

-- the sketch has registers, and these are their totals
pub record AreRegisterTotals (x : Sketch) (t : RegisterTotals) : Type 0 where
  pub values : List ℕ
  pub content : x.content ≡ registers values t.state
  pub are : AreRegisters x.lg_k values
  pub zeros_are : t.zeros ≡ zeros values
  pub sum : t.units ≡ units values

-- these are the totals of the sketch
abbrev pub AreTotalsOf : Sketch → Totals → Type 0
AreTotalsOf x (variants.Coupons size count) = AreCouponTotals x size count
AreTotalsOf x (variants.Registers t) = AreRegisterTotals x t
