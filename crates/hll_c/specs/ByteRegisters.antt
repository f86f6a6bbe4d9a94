-- SPDX-License-Identifier: Apache-2.0
-- What the calls do with caller-owned registers (docs/MODEL.md, "Caller-owned registers").
use Rattle.std.specs.Prelude.{◌≡◌, ℕ, ◌^◌, ◌≤◌, List, ◌++◌, length, drop, Some, None, All}
use Rattle.hll_base.specs.Join.{join}
use Rattle.hll_base.specs.Reason.{number_of}
use Rattle.hll_base.specs.declared.error.Reason.{Reason}
use Rattle.hll_base.specs.declared.error.Reason.TheVariants.{Argument, Memory, Register}
use Rattle.hll_coupons.specs.Fold.{fold_to, pairs}
use Rattle.hll_coupons.specs.Pair.{set_of}
use Rattle.hll_kernels.specs.Packed.{AreRegisters}
use Rattle.hll_registers.specs.State.{cleared_state}
use Rattle.hll_base.specs.declared.hll_type.HllType.TheVariants.{Hll8}
use Rattle.hll_sketch.specs.ByteRegisters.{TakesMaxWithImage, TakesMaxWithSketch, ReadNeedsMemory, HasFieldsOf}
use Rattle.hll_sketch.specs.Value.{Sketch, IsLgK, registers}
use Rattle.hll_c.specs.Answers.{RefusesWith, ok_code}
use Rattle.hll_c.specs.Calls.{IsWidth}
use Rattle.hll_c.specs.Info.{AreCountsOf}
use Rattle.hll_c.specs.declared.info.HllHistogram.{HllHistogram}

-- the code of a call if the other registers are fewer
abbrev pub coarser_code : ℕ
coarser_code = 15

-- one byte for each of 2^k registers
pub record IsLgKOf (R : List ℕ) (k : ℕ) : Type 0 where
  pub is : IsLgK k
  pub size : length R ≡ 2 ^ k

-- the number of bytes is the number of registers of an lg_k
pub record HasLgK (R : List ℕ) : Type 0 where
  pub lg_k : ℕ
  pub of : IsLgKOf R lg_k

-- ---- merging

-- The registers become the maximum of their old values and of the registers that the image folds to; or the image has fewer
-- registers, not all 0, and `reported` becomes its lg_k; or it is rejected. In the last two cases the registers are unchanged.
pub data MergesImageInto (image old new : List ℕ) (reported_old reported_new : ℕ) : ℕ → Type 0 where
  joined : {k : ℕ} → IsLgKOf old k → TakesMaxWithImage k image old new None → reported_new ≡ reported_old → MergesImageInto image old new reported_old reported_new ok_code
  coarser : {k e : ℕ} → IsLgKOf old k → TakesMaxWithImage k image old new (Some e) → reported_new ≡ e → MergesImageInto image old new reported_old reported_new coarser_code
  refused : {r : Reason} → RefusesWith (HasLgK old) image r → (r ≡ Memory → ReadNeedsMemory image) → new ≡ old → reported_new ≡ reported_old
      → MergesImageInto image old new reported_old reported_new (number_of r)

-- 8-bit registers, as a sketch
abbrev pub sketch_of_bytes : ℕ → List ℕ → Sketch
sketch_of_bytes l Q = record { lg_k = l; width = Hll8; content = registers Q cleared_state }

-- `MergesImageInto` with other registers in place of an image.
pub data MergesRegistersInto (others old new : List ℕ) (reported_old reported_new : ℕ) : ℕ → Type 0 where
  merged_registers : {k l : ℕ} → IsLgKOf old k → IsLgKOf others l → AreRegisters l others → TakesMaxWithSketch k (sketch_of_bytes l others) old new None → reported_new ≡ reported_old
      → MergesRegistersInto others old new reported_old reported_new ok_code
  coarser_registers : {k l e : ℕ} → IsLgKOf old k → IsLgKOf others l → AreRegisters l others → TakesMaxWithSketch k (sketch_of_bytes l others) old new (Some e) → reported_new ≡ e
      → MergesRegistersInto others old new reported_old reported_new coarser_code
  others_above : {l : ℕ} → HasLgK old → IsLgKOf others l → (AreRegisters l others → ⊥) → new ≡ old → reported_new ≡ reported_old → MergesRegistersInto others old new reported_old reported_new (number_of Register)
  others_argument : (HasLgK old × HasLgK others → ⊥) → new ≡ old → reported_new ≡ reported_old → MergesRegistersInto others old new reported_old reported_new (number_of Argument)

-- ---- coupons

-- no raw coupon has the value 0
abbrev pub HaveValues : List ℕ → Type 0
HaveValues coupons = All (λ raw_coupon. 2 ^ 26 ≤ raw_coupon) coupons

-- The registers become the maximum of their old values and of the registers that the coupons fold to; or the number of
-- registers is not that of an lg_k, or the coupons can't be asked for, and nothing changes.
pub data AddsCoupons (AreCoupons : Type 0) (coupons old new : List ℕ) : ℕ → Type 0 where
  added_coupons : {k : ℕ} → IsLgKOf old k → AreCoupons → new ≡ join old (fold_to (set_of coupons) k) → AddsCoupons AreCoupons coupons old new ok_code
  no_coupons_to_add : (HasLgK old × AreCoupons → ⊥) → new ≡ old → AddsCoupons AreCoupons coupons old new (number_of Argument)

-- ---- folds

-- registers, and an lg_k from 4 to their own
pub record AreFoldArguments (to : ℕ) (old : List ℕ) : Type 0 where
  pub kept : HasLgK old
  pub to_is : IsLgK to
  pub within : to ≤ kept.lg_k

-- The registers are folded into the first 2^`to` bytes, and the bytes after these are unchanged; or an argument is out of
-- range, or a byte is above 63.
pub data FoldsInPlace (to : ℕ) (old new : List ℕ) : ℕ → Type 0 where
  folded : {k : ℕ} → IsLgKOf old k → IsLgK to → to ≤ k → AreRegisters k old → new ≡ fold_to (pairs old) to ++ drop (2 ^ to) old → FoldsInPlace to old new ok_code
  fold_argument : (AreFoldArguments to old → ⊥) → new ≡ old → FoldsInPlace to old new (number_of Argument)
  fold_register : {k : ℕ} → IsLgKOf old k → IsLgK to → to ≤ k → (AreRegisters k old → ⊥) → new ≡ old → FoldsInPlace to old new (number_of Register)

-- ---- what registers say

-- why registers are rejected: their number is not 2^k for an lg_k, or one is above 63
pub data RefusesRegisters (R : List ℕ) : Reason → Type 0 where
  no_lg_k : (HasLgK R → ⊥) → RefusesRegisters R Argument
  above_63 : {k : ℕ} → IsLgKOf R k → (AreRegisters k R → ⊥) → RefusesRegisters R Register

-- the number of registers with each value
pub record SaysCounts (R : List ℕ) (h : HllHistogram) : Type 0 where
  pub lg_k : ℕ
  pub of : IsLgKOf R lg_k
  pub are : AreRegisters lg_k R
  pub says : AreCountsOf R h.counts

-- ---- the image of registers

pub record AreImageArguments (bits : ℕ) (R : List ℕ) : Type 0 where
  pub kept : HasLgK R
  pub width_is : IsWidth bits

-- a sketch of the registers, with its estimator fields set
pub record IsOfBytes (bits : ℕ) (R : List ℕ) (y : Sketch) : Type 0 where
  pub lg_k : ℕ
  pub of : IsLgKOf R lg_k
  pub width_is : IsWidth bits
  pub are : AreRegisters lg_k R
  pub is : HasFieldsOf lg_k width_is.width R y

pub data RefusesBytes (bits : ℕ) (R : List ℕ) : Reason → Type 0 where
  bytes_argument : (AreImageArguments bits R → ⊥) → RefusesBytes bits R Argument
  bytes_register : {k : ℕ} → IsLgKOf R k → IsWidth bits → (AreRegisters k R → ⊥) → RefusesBytes bits R Register
  bytes_memory : {k : ℕ} → IsLgKOf R k → IsWidth bits → AreRegisters k R → RefusesBytes bits R Memory
