-- SPDX-License-Identifier: Apache-2.0
-- What a union holds, as contracts see it (docs/MODEL.md, "Merging").
use Rattle.std.specs.Prelude.{◌≡◌, ◌≢◌, ℕ, ◌≤◌, ◌<◌, ◌==◌, ◌&&◌, ◌⊎◌, Bool, true, false, Some, List, All}
use Rattle.std.specs.FinSet.{empty, union, len}
use Rattle.hll_coupons.specs.Pair.{Pairs}
use Rattle.hll_base.specs.declared.hll_type.HllType.TheVariants.{Hll4, Hll6, Hll8}
use Rattle.hll_coupons.specs.Table.{coupons_of}
use Rattle.hll_registers.specs.Store.{Stored}
use Rattle.hll_sketch.specs.Layout.{Layout, list, set, array, SketchLayout, content_in, sketch_of}
use Rattle.hll_sketch.specs.Stage.{can_hold, stage}
use Rattle.hll_sketch.specs.Value.{Sketch, Content, coupons, registers, in_registers, is_empty}

-- a bound, and a gadget with its buckets
pub record UnionLayout : Type 0 where
  pub lg_max_k : ℕ
  pub gadget : SketchLayout

-- the gadget's sketch value
abbrev pub gadget_of : UnionLayout → Sketch
gadget_of u = sketch_of u.gadget

-- 8-bit registers as a sketch value
abbrev pub sketch_of_registers : Stored → Sketch
sketch_of_registers x = record { lg_k = x.lg_k; width = Hll8; content = registers x.registers x.state }

-- a gadget has a width of 8 bits; its coupons are at the bound, its registers are at the bound or lower, and not all 0
pub record IsGadget (bound : ℕ) (g : Sketch) : Type 0 where
  pub width : g.width ≡ Hll8
  pub lg_k : g.lg_k ≤ bound
  pub coupons : in_registers g.content ≡ false → g.lg_k ≡ bound
  pub registers : in_registers g.content ≡ true → is_empty g ≡ false

-- Other sketches can be merged into this one without an allocation: it has 8-bit registers, not all 0, within the bound, and no
-- other sketch is at a smaller lg_k.
pub record CanMergeIn (bound : ℕ) (first : SketchLayout) (others : List SketchLayout) : Type 0 where
  pub gadget : IsGadget bound (sketch_of first)
  pub inside : in_registers (content_in first.layout) ≡ true
  pub within : All (λ (x : SketchLayout). first.lg_k ≤ x.lg_k) others

-- the coupons of a table; registers have none
abbrev pub coupons_kept : Layout → Pairs
coupons_kept (list width t) = coupons_of t
coupons_kept (set width t) = coupons_of t
coupons_kept (array width x e) = empty

-- whether a table holds its coupons and others; 6-bit and 8-bit registers always do
abbrev pub can_hold_all : Layout → Pairs → Bool
can_hold_all (list width t) T = can_hold t.lg_size (len (union (coupons_of t) T))
can_hold_all (set width t) T = can_hold t.lg_size (len (union (coupons_of t) T))
can_hold_all (array Hll4 x e) T = false
can_hold_all (array Hll6 x e) T = true
can_hold_all (array Hll8 x e) T = true

-- Merging a content into a gadget's content may need an allocation: for coupons that are copied with their table or that the
-- gadget's table doesn't hold with its own, for coupons that become registers, and for registers at a smaller lg_k.
abbrev pub ContentNeedsMemory : Sketch → Content → ℕ → Content → Type 0
ContentNeedsMemory g (coupons S p) k (coupons T q) = (is_empty g && (g.lg_k == k) ≡ true) ⊎ (stage g.lg_k p (len (union S T)) ≢ Some p)
ContentNeedsMemory g (registers R s) k (coupons T q) = ⊥
ContentNeedsMemory g (coupons S p) k (registers Q t) = Unit {0}
ContentNeedsMemory g (registers R s) k (registers Q t) = k < g.lg_k

-- merging a sketch may need an allocation; an empty sketch needs none
pub record MergeNeedsMemory (g x : Sketch) : Type 0 where
  pub some : is_empty x ≡ false
  pub content : ContentNeedsMemory g g.content x.lg_k x.content
