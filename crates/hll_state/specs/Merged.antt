-- SPDX-License-Identifier: Apache-2.0
-- Sketches that are merged into a state.
use Rattle.std.specs.Prelude.{◌≡◌, ℕ, ◌+◌, ◌-◌, ◌^◌, ◌≤◌, ◌==◌, Bool, true, false, List, min, take}
use Rattle.std.specs.FinSet.{len}
use Rattle.hll_base.specs.declared.hll_type.HllType.{HllType}
use Rattle.hll_base.specs.declared.hll_type.HllType.TheVariants.{Hll4, Hll6, Hll8}
use Rattle.hll_coupons.specs.Pair.{set_of}
use Rattle.hll_coupons.specs.Table.{Table, coupons_of}
use Rattle.hll_kernels.specs.Packed.{AreRegisters}
use Rattle.hll_sketch.specs.Value.{Sketch, Content, coupons, registers, in_registers, is_empty}
use Rattle.hll_state.specs.Counter.{content_of}
use Rattle.hll_state.specs.CouponRun.{raws}
use Rattle.hll_state.specs.Header.{HasRoom, len_asked}
use Rattle.hll_state.specs.Registers.{values}
use Rattle.hll_state.specs.declared.header.Header.{Header}
use Rattle.hll_state.specs.declared.header.Held.{Held}
use Rattle.hll_state.specs.declared.header.Held.TheVariants.{Coupons, Registers}

-- the coupons of elements, in a table of 2^size buckets
abbrev pub table_of : ℕ → ℕ → List (List ℕ) → Sketch
table_of k size elements = record { lg_k = k; width = Hll8; content = coupons (set_of (raws elements)) size }

-- the coupons of a table
abbrev pub sketch_of_table : ℕ → Table → Sketch
sketch_of_table k t = record { lg_k = k; width = Hll8; content = coupons (coupons_of t) t.lg_size }

-- what a state holds, as a sketch
abbrev pub sketch_of_held : ℕ → Held → List (List ℕ) → Sketch
sketch_of_held k held body = record { lg_k = k; width = Hll8; content = content_of k held body }

abbrev pub AreHeldRegistersLegal : ℕ → Held → List (List ℕ) → Type 0
AreHeldRegistersLegal k (Coupons c) body = Unit {0}
AreHeldRegistersLegal k (Registers s) body = AreRegisters k (values (take (2 ^ (k - 2)) body))

-- the registers of a state, if it has registers, are 0 to 63
abbrev pub HasLegalRegisters : Header → List (List ℕ) → Type 0
HasLegalRegisters h body = AreHeldRegistersLegal h.lg_k h.held body

-- its registers, if it has registers, are not all 0
abbrev pub HasSomeRegister : Sketch → Type 0
HasSomeRegister x = in_registers x.content ≡ true → is_empty x ≡ false

-- ---- widths

-- the bit of a width: 1 for 4 bits, 2 for 6 bits, 4 for 8 bits
abbrev pub bit_of : HllType → ℕ
bit_of Hll4 = 1
bit_of Hll6 = 2
bit_of Hll8 = 4

-- ---- room

-- no element is in use; registers use theirs
abbrev pub is_unused : Held → Bool
is_unused (Coupons c) = c.run.used == 0
is_unused (Registers s) = false

-- the elements in use in addition to registers
abbrev pub used_in : Held → ℕ
used_in (Coupons c) = c.run.used
used_in (Registers s) = 0

-- `room` elements after the header are enough for more coupons, or for registers at the smaller lg_k, in addition to the
-- elements in use
abbrev pub HasRoomForContent : Header → ℕ → Content → ℕ → Type 0
HasRoomForContent h k (coupons S size) room = HasRoom h (len S) room
HasRoomForContent h k (registers R state) room = 2 ^ (min h.lg_k k - 2) + used_in h.held ≤ room

abbrev pub len_asked_for_content : Header → ℕ → Content → ℕ
len_asked_for_content h k (coupons S size) = len_asked h.lg_k h.held (len S)
len_asked_for_content h k (registers R state) = 10 + (2 ^ (min h.lg_k k - 2) + used_in h.held)

-- the number of elements, header included, that is asked for if there is no room to merge a sketch: as for its coupons; or
-- exactly what is enough for its registers
abbrev pub len_asked_for : Header → Sketch → ℕ
len_asked_for h y = len_asked_for_content h y.lg_k y.content

-- `room` elements after the header are enough to merge a sketch; an empty sketch needs none
abbrev pub HasRoomToMerge : Header → Sketch → ℕ → Type 0
HasRoomToMerge h x room = is_empty x ≡ false → HasRoomForContent h x.lg_k x.content room
