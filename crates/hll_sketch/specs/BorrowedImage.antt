-- SPDX-License-Identifier: Apache-2.0
-- The sketch of an image whose coupons or registers are borrowed from its bytes (docs/MODEL.md, "Sketch values").
use Rattle.std.specs.Prelude.{◌≡◌, map, false}
use Rattle.std.specs.Int.{w32, from_le_bytes}
use Rattle.hll_base.specs.declared.hll_type.HllType.{HllType}
use Rattle.hll_base.specs.declared.hll_type.HllType.TheVariants.{Hll4, Hll6, Hll8}
use Rattle.hll_coupons.specs.Pair.{set_of}
use Rattle.hll_registers.specs.Store.{Stored}
use Rattle.hll_sketch.specs.Layout.{sketch_of}
use Rattle.hll_sketch.specs.Value.{Sketch, coupons, registers, in_registers}
use Rattle.hll_sketch.specs.declared.borrowed_image.BorrowedImage.{BorrowedImage}
use Rattle.hll_sketch.specs.declared.borrowed_image.BorrowedImage.TheVariants.{Coupons, Table, Nibbles, Groups, Bytes}
use Rattle.hll_sketch.specs.declared.coupons_of_image.CouponsOfImage.{CouponsOfImage}

-- coupons of four bytes each, the lowest byte first, in a table
abbrev pub sketch_of_coupons : CouponsOfImage → Sketch
sketch_of_coupons c = record { lg_k = c.lg_k; width = c.hll_type; content = coupons (set_of (map (from_le_bytes w32) c.elements.now)) c.lg_size }

-- registers with their estimate state, at a width
abbrev pub sketch_in_width : HllType → Stored → Sketch
sketch_in_width width x = record { lg_k = x.lg_k; width = width; content = registers x.registers x.state }

abbrev pub sketch_of_borrowed : {A : Type 0} → BorrowedImage A → Sketch
sketch_of_borrowed (Coupons c) = sketch_of_coupons c
sketch_of_borrowed (Table s) = sketch_of s
sketch_of_borrowed (Nibbles x) = sketch_in_width Hll4 x
sketch_of_borrowed (Groups x) = sketch_in_width Hll6 x
sketch_of_borrowed (Bytes x) = sketch_in_width Hll8 x

-- a table has coupons, not registers
abbrev pub HasCouponsInTable : {A : Type 0} → BorrowedImage A → Type 0
HasCouponsInTable (Coupons c) = Unit {0}
HasCouponsInTable (Table s) = in_registers (sketch_of s).content ≡ false
HasCouponsInTable (Nibbles x) = Unit {0}
HasCouponsInTable (Groups x) = Unit {0}
HasCouponsInTable (Bytes x) = Unit {0}
