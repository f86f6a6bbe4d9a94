-- SPDX-License-Identifier: Apache-2.0
-- What calls report of an image (docs/MODEL.md, "Calls over images").
use Rattle.std.specs.Prelude.{◌≡◌, ℕ, ◌+◌, ◌*◌, ◌^◌, ◌<◌, ◌==◌, ◌&&◌, Bool, not, nat_lt, if◌then◌else◌, List, [], ◌∷◌, count_by, slice_index}
use Rattle.std.specs.FinSet.{len}
use Rattle.hll_coupons.specs.Fold.{fold_to}
use Rattle.hll_kernels.specs.Packed.{zeros, units}
use Rattle.hll_registers.specs.declared.estimate_state.EstimateState.{EstimateState}
use Rattle.hll_sketch.specs.Image.{IsReadAs}
use Rattle.hll_sketch.specs.Value.{Sketch, Content, coupons, registers, is_empty, pairs_of}
use Rattle.hll_c.specs.Calls.{bit, bits_of}
use Rattle.hll_c.specs.declared.info.HllInfo.{HllInfo}
use Rattle.hll_c.specs.declared.info.HllHistogram.{HllHistogram}

-- the three estimator fields of registers
abbrev pub reported_fields : HllInfo → List ℕ
reported_fields i = i.hip ∷ i.kxq0 ∷ i.kxq1 ∷ []

-- the bits of a binary64 number that is finite and above 0: sign 0, and an exponent below 2047
abbrev pub is_positive_finite : ℕ → Bool
is_positive_finite bits = nat_lt 0 bits && nat_lt bits (2047 * 2 ^ 52)

-- registers have a HIP estimate: no flag says that they were merged, and the field for it is a finite number above 0
abbrev pub has_hip : EstimateState → Bool
has_hip state = not state.out_of_order && is_positive_finite (slice_index state.words 0)

-- what is reported of coupons: the stage, which follows from the size of the table, and their number; the members for registers
-- are 0
pub record IsInfoOfCoupons (count size : ℕ) (i : HllInfo) : Type 0 where
  pub stage : i.stage ≡ (if size == 3 then 0 else 1)
  pub coupons : i.coupons ≡ count
  pub zeros_none : i.zeros ≡ 0
  pub high_none : i.units_high ≡ 0
  pub low_none : i.units_low ≡ 0
  pub fields_none : reported_fields i ≡ 0 ∷ 0 ∷ 0 ∷ []
  pub order : i.out_of_order ≡ 0
  pub no_hip : i.has_hip ≡ 0

-- what is reported of registers: how many are 0, the sum of their weights in two halves, and their estimate state
pub record IsInfoOfRegisters (R : List ℕ) (state : EstimateState) (i : HllInfo) : Type 0 where
  pub stage : i.stage ≡ 2
  pub coupons_none : i.coupons ≡ 0
  pub zeros_are : i.zeros ≡ zeros R
  pub low_half : i.units_low < 2 ^ 64
  pub sum : i.units_high * 2 ^ 64 + i.units_low ≡ units R
  pub fields : reported_fields i ≡ state.words
  pub order : i.out_of_order ≡ bit state.out_of_order
  pub hip : i.has_hip ≡ bit (has_hip state)

abbrev pub IsInfoOfContent : Content → HllInfo → Type 0
IsInfoOfContent (coupons S size) i = IsInfoOfCoupons (len S) size i
IsInfoOfContent (registers R state) i = IsInfoOfRegisters R state i

-- what is reported of a sketch
pub record IsInfoOf (x : Sketch) (i : HllInfo) : Type 0 where
  pub lg_k : i.lg_k ≡ x.lg_k
  pub width : i.width ≡ bits_of x.width
  pub empty : i.is_empty ≡ bit (is_empty x)
  pub content : IsInfoOfContent x.content i

-- what is reported of an image
pub record SaysInfo (image : List ℕ) (i : HllInfo) : Type 0 where
  pub sketch : Sketch
  pub read : IsReadAs image sketch
  pub says : IsInfoOf sketch i

-- the number of registers with each value from 0 to 63
pub record AreCountsOf (R counts : List ℕ) : Type 0 where
  pub each : (v : ℕ) → v < 64 → slice_index counts v ≡ count_by (λ r. r == v) R

-- the counts of the registers that the pairs of an image fold to at its lg_k
pub record SaysHistogram (image : List ℕ) (h : HllHistogram) : Type 0 where
  pub sketch : Sketch
  pub read : IsReadAs image sketch
  pub says : AreCountsOf (fold_to (pairs_of sketch) sketch.lg_k) h.counts
