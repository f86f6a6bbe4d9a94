-- SPDX-License-Identifier: Apache-2.0
-- The registers of an image, borrowed from its bytes, or those that its coupons fold to
-- (docs/MODEL.md, "Caller-owned registers").
use Rattle.std.specs.Prelude.{◌≡◌, ◌≢◌, ℕ, ◌^◌, ◌==◌, if◌then◌else◌, List, length, Option, Some, None}
use Rattle.hll_base.specs.declared.hll_type.HllType.{HllType}
use Rattle.hll_base.specs.declared.hll_type.HllType.TheVariants.{Hll4, Hll6, Hll8}
use Rattle.hll_coupons.specs.Fold.{fold_to}
use Rattle.hll_coupons.specs.Pair.{set_of}
use Rattle.hll_sketch.specs.Image.{stage_bits, width_bits, width_of_bits}
use Rattle.hll_sketch.specs.Value.{IsLgK}
use Rattle.hll_images.specs.declared.borrowed_registers.BorrowedRegisters.{BorrowedRegisters}
use Rattle.hll_images.specs.declared.borrowed_registers.BorrowedRegisters.TheVariants.{Nibbles, Groups, Bytes, OfCoupons}

-- the logarithm of the number of registers
abbrev pub lg_k_of : {A : Type 0} → BorrowedRegisters A → ℕ
lg_k_of (Nibbles x) = x.lg_k
lg_k_of (Groups x) = x.lg_k
lg_k_of (Bytes x) = x.lg_k
lg_k_of (OfCoupons x) = x.lg_k

-- the values of the registers
abbrev pub values_of : {A : Type 0} → BorrowedRegisters A → List ℕ
values_of (Nibbles x) = x.registers
values_of (Groups x) = x.registers
values_of (Bytes x) = x.registers
values_of (OfCoupons x) = fold_to (set_of x.raw_coupons.items) x.lg_k

-- the width of registers that are borrowed from an image; `None` for those of coupons
abbrev pub width_of : {A : Type 0} → BorrowedRegisters A → Option HllType
width_of (Nibbles x) = Some Hll4
width_of (Groups x) = Some Hll6
width_of (Bytes x) = Some Hll8
width_of (OfCoupons x) = None

-- the width of the registers in an image; `None` if it has coupons
abbrev pub width_in : List ℕ → Option HllType
width_in b = if stage_bits b == 2 then Some (width_of_bits (width_bits b)) else None

-- 2^lg_k registers, for an lg_k that a sketch may have
pub record AreWhole {A : Type 0} (x : BorrowedRegisters A) : Type 0 where
  pub lg_k : IsLgK (lg_k_of x)
  pub size : length (values_of x) ≡ 2 ^ lg_k_of x

-- both are borrowed from images, with the same width and lg_k
pub record LieAlike {A : Type 0} (x y : BorrowedRegisters A) : Type 0 where
  pub lg_k : lg_k_of x ≡ lg_k_of y
  pub width : width_of x ≡ width_of y
  pub some : width_of x ≢ None
