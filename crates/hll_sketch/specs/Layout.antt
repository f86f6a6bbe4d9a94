-- SPDX-License-Identifier: Apache-2.0
-- What a sketch holds, as contracts see it, and its sketch value (docs/MODEL.md, "Sketch values").
use Rattle.std.specs.Prelude.{◌≡◌, ◌≢◌, ℕ, ◌+◌, ◌^◌, ◌≤◌, ◌<◌, ◌==◌, ◌⊎◌, Bool, true, false, Option, Some, None, if◌then◌else◌, [], ◌∷◌, length}
use Rattle.std.specs.FinSet.{insert, union, len}
use Rattle.hll_coupons.specs.AuxMap.{ExceptionMap}
use Rattle.hll_coupons.specs.Pair.{set_of}
use Rattle.hll_coupons.specs.Table.{Table, coupons_in, coupons_of}
use Rattle.hll_base.specs.declared.hll_type.HllType.{HllType}
use Rattle.hll_base.specs.declared.hll_type.HllType.TheVariants.{Hll4, Hll6, Hll8}
use Rattle.hll_registers.specs.FourBits.{ExceptionsMove}
use Rattle.hll_registers.specs.Store.{Stored, update_with_coupon}
use Rattle.hll_sketch.specs.Stage.{can_hold, stage}
use Rattle.hll_sketch.specs.Value.{Sketch, Content, coupons, registers}
use Rattle.hll_sketch.specs.declared.mode.Mode.{Mode}
use Rattle.hll_sketch.specs.declared.mode.Mode.TheVariants.{List, Set, Array4, Array6, Array8}

-- a list or a set with its width and its buckets, or registers of a width; 4-bit registers with the map of exceptions
pub data Layout : Type 0 where
  list : HllType → Table → Layout
  set : HllType → Table → Layout
  array : HllType → Stored → Option ExceptionMap → Layout

-- the layout of a mode
abbrev pub layout_of : {A : Type 0} → Mode A → Layout
layout_of (List table width) = list width table
layout_of (Set table width) = set width table
layout_of (Array4 bits) = array Hll4 bits.stored bits.exceptions
layout_of (Array6 stored) = array Hll6 stored None
layout_of (Array8 stored) = array Hll8 stored None

-- an lg_k and a layout
pub record SketchLayout : Type 0 where
  pub lg_k : ℕ
  pub layout : Layout

abbrev pub width_of : Layout → HllType
width_of (list width t) = width
width_of (set width t) = width
width_of (array width x e) = width

-- the content of a layout
abbrev pub content_in : Layout → Content
content_in (list width t) = coupons (coupons_of t) t.lg_size
content_in (set width t) = coupons (coupons_of t) t.lg_size
content_in (array width x e) = registers x.registers x.state

-- the sketch value
abbrev pub sketch_of : SketchLayout → Sketch
sketch_of x = record { lg_k = x.lg_k; width = width_of x.layout; content = content_in x.layout }

-- ---- legal layouts

-- a list has eight buckets; a set has a size for its lg_k and an empty bucket; the number of registers is 2^lg_k
abbrev pub IsLayoutFor : ℕ → Layout → Type 0
IsLayoutFor k (list width t) = t.lg_size ≡ 3
IsLayoutFor k (set width t) = (5 ≤ t.lg_size) × (t.lg_size + 3 ≤ k) × (length (coupons_in t.buckets) < 2 ^ t.lg_size)
IsLayoutFor k (array width x e) = x.lg_k ≡ k

-- registers, if the layout has registers, are at this lg_k or a greater one
abbrev pub IsWithin : ℕ → Layout → Type 0
IsWithin e (list width t) = Unit {0}
IsWithin e (set width t) = Unit {0}
IsWithin e (array width x m) = e ≤ x.lg_k

-- ---- steps

-- a size of a table at an lg_k
abbrev pub IsSize : ℕ → ℕ → Type 0
IsSize k p = (p ≡ 3) ⊎ ((5 ≤ p) × (p + 3 ≤ k))

-- the size after this one; if it is too large for the lg_k, the coupons become registers
abbrev pub size_after : ℕ → ℕ
size_after size = if size == 3 then 5 else size + 1

-- the greatest number of coupons that a legal table has after one more was added: a list nine, a set the number of its buckets
abbrev pub AtMost : ℕ → ℕ → Type 0
AtMost p n = (p ≡ 3 → n ≤ 9) × (5 ≤ p → n ≤ 2 ^ p)

-- one step is enough: a size that holds the coupons is kept, else the next size holds them, or they become registers
pub record OneStepSuffices : Type 0 where
  pub stays : (k p n : ℕ) → IsSize k p → can_hold p n ≡ true → stage k p n ≡ Some p
  pub next : (k p n : ℕ) → IsSize k p → can_hold p n ≡ false → AtMost p n → size_after p + 3 ≤ k → stage k p n ≡ Some (size_after p)
  pub last : (k p n : ℕ) → IsSize k p → can_hold p n ≡ false → k < size_after p + 3 → stage k p n ≡ None

-- whether a table holds its coupons and this one; registers always do
abbrev pub can_hold_with : Layout → ℕ → Bool
can_hold_with (list width t) c = can_hold t.lg_size (len (insert (coupons_of t) c))
can_hold_with (set width t) c = can_hold t.lg_size (len (insert (coupons_of t) c))
can_hold_with (array width x e) c = true

-- with one more coupon, the table doesn't keep its size
abbrev pub TableChanges : ℕ → Table → ℕ → Type 0
TableChanges k t c = stage k t.lg_size (len (union (coupons_of t) (set_of (c ∷ [])))) ≢ Some t.lg_size

-- adding a coupon needs an allocation: the table changes its size, or the exceptions of 4-bit registers move
abbrev pub NeedsMemory : ℕ → Layout → ℕ → Type 0
NeedsMemory k (list width t) c = TableChanges k t c
NeedsMemory k (set width t) c = TableChanges k t c
NeedsMemory k (array Hll4 x e) c = ExceptionsMove x.lg_k x.registers (update_with_coupon x c).registers
NeedsMemory k (array Hll6 x e) c = ⊥
NeedsMemory k (array Hll8 x e) c = ⊥

-- the number of coupons of a content; `None` for registers
abbrev pub count_in : Content → Option ℕ
count_in (coupons S size) = Some (len S)
count_in (registers R state) = None
