-- SPDX-License-Identifier: Apache-2.0
-- What the first ten elements of a state say, each as a 32-bit number (docs/MODEL.md, "States of a counter").
use Rattle.std.specs.Prelude.{◌≡◌, ℕ, ◌+◌, ◌-◌, ◌*◌, ◌%◌, ◌/◌, ◌^◌, ◌≤◌, ◌<◌, ◌==◌, nat_le, Bool, true, false, if◌then◌else◌, List, [], ◌∷◌, slice_index, Option, Some, None, max, min}
use Rattle.hll_registers.specs.declared.estimate_state.EstimateState.{EstimateState}
use Rattle.hll_sketch.specs.Layout.{IsSize}
use Rattle.hll_sketch.specs.Stage.{can_hold}
use Rattle.hll_sketch.specs.Value.{IsLgK, IsTableFor}
use Rattle.hll_state.specs.declared.header.Header.{Header}
use Rattle.hll_state.specs.declared.header.Held.{Held}
use Rattle.hll_state.specs.declared.header.Held.TheVariants.{Coupons, Registers}
use Rattle.hll_state.specs.declared.header.CouponTable.{CouponTable}

-- ---- reading

-- a 64-bit number in two 32-bit numbers, the lower half first
abbrev pub wide : List ℕ → ℕ → ℕ
wide ws i = slice_index ws i + 2 ^ 32 * slice_index ws (i + 1)

abbrev pub coupons_in_header : List ℕ → CouponTable
coupons_in_header ws = record {
  lg_size = slice_index ws 3 % 32;
  added = slice_index ws 4 == 1;
  run = record { run = slice_index ws 5; used = slice_index ws 6 };
}

abbrev pub state_in_header : List ℕ → EstimateState
state_in_header ws = record { words = wide ws 4 ∷ wide ws 6 ∷ wide ws 8 ∷ []; out_of_order = slice_index ws 3 == 1 }

-- the first number distinguishes coupons from registers; its highest byte is the version of states, 2
abbrev pub coupons_tag : ℕ
coupons_tag = 38292545

abbrev pub registers_tag : ℕ
registers_tag = 38292546

abbrev pub held_in_header : List ℕ → Option Held
held_in_header ws =
    if slice_index ws 0 == coupons_tag then Some (Coupons (coupons_in_header ws))
    else (if slice_index ws 0 == registers_tag then Some (Registers (state_in_header ws)) else None)

abbrev pub with_held : List ℕ → Option Held → Option Header
with_held ws None = None
with_held ws (Some held) = Some (record { lg_k = slice_index ws 1 % 32; widths = slice_index ws 2 % 8; held = held })

-- what the numbers say, if they are the header of a state
abbrev pub header_of : List ℕ → Option Header
header_of ws = with_held ws (held_in_header ws)

-- ---- what is held

abbrev pub of_coupons : CouponTable → Held
of_coupons c = Coupons c

abbrev pub of_registers : EstimateState → Held
of_registers s = Registers s

abbrev pub has_registers : Held → Bool
has_registers (Coupons c) = false
has_registers (Registers s) = true

-- ---- an empty sketch

-- no coupons, in a list, and no widths
abbrev pub new_header : ℕ → Header
new_header k = record { lg_k = k; widths = 0; held = Coupons (record { lg_size = 3; added = false; run = record { run = 0; used = 0 } }) }

-- ---- room

-- the size of the largest table at an lg_k
abbrev pub greatest_size : ℕ → ℕ
greatest_size k = if nat_le k 7 then 3 else k - 3

-- this number of coupons never becomes registers
abbrev pub are_few : ℕ → ℕ → Bool
are_few k n = can_hold (greatest_size k) n

-- the greatest number of coupons in use, including repeated ones, before the distinct coupons are counted
abbrev pub most_used : ℕ → ℕ
most_used k = 2 ^ max 4 (k - 3)

-- the number of elements after the header that is enough for all states: for registers, and next to them for the coupons that
-- become registers
abbrev pub most_elements : ℕ → ℕ
most_elements k = 2 ^ (k - 2) + most_used k

-- the number of elements after the header that is enough for n coupons
abbrev pub elements_for : ℕ → ℕ → ℕ
elements_for k n = if are_few k n then n else most_elements k

-- `room` elements are enough for the coupons
pub record AreWithin (k : ℕ) (c : CouponTable) (room : ℕ) : Type 0 where
  pub size : IsSize k c.lg_size
  pub taken : c.added ≡ false → IsTableFor k c.run.used c.lg_size
  pub run : c.run.run ≤ c.run.used
  pub used : c.run.used ≤ most_used k
  pub there : elements_for k c.run.used ≤ room

abbrev pub IsHeldWithin : ℕ → Held → ℕ → Type 0
IsHeldWithin k (Coupons c) room = AreWithin k c room
IsHeldWithin k (Registers s) room = 2 ^ (k - 2) ≤ room

-- `room` elements after the header are enough for what it says
pub record IsWithin (h : Header) (room : ℕ) : Type 0 where
  pub lg_k : IsLgK h.lg_k
  pub widths : h.widths < 8
  pub held : IsHeldWithin h.lg_k h.held room

abbrev pub HasRoomFor : ℕ → Held → ℕ → ℕ → Type 0
HasRoomFor k (Coupons c) n room = elements_for k (c.run.used + n) ≤ room
HasRoomFor k (Registers s) n room = 2 ^ (k - 2) ≤ room

-- `room` elements after the header are enough for n more coupons
abbrev pub HasRoom : Header → ℕ → ℕ → Type 0
HasRoom h n room = HasRoomFor h.lg_k h.held n room

-- half as many again, and eight more
abbrev pub half_more : ℕ → ℕ
half_more n = n + (n / 2 + 8)

-- the greatest number of coupons that never become registers
abbrev pub most_few : ℕ → ℕ
most_few k = if nat_le k 7 then 7 else 3 * 2 ^ (k - 5)

-- the number of elements that is asked for n coupons: enough for half as many again and eight more, but for no more than never
-- become registers, unless the n are more
abbrev pub asked_for : ℕ → ℕ → ℕ
asked_for k n = if are_few k n then min (half_more n) (most_few k) else most_elements k

-- the number of elements, header included, that is asked for if there is no room for n more coupons; registers need no more
abbrev pub len_asked : ℕ → Held → ℕ → ℕ
len_asked k (Coupons c) n = 10 + asked_for k (c.run.used + n)
len_asked k (Registers s) n = 10 + 2 ^ (k - 2)

-- the tail, in which coupons may be repeated, has at most half of the elements in use
abbrev pub HasShortTail : Held → Type 0
HasShortTail (Coupons c) = c.run.used ≤ c.run.run + c.run.used / 2
HasShortTail (Registers s) = Unit {0}

-- fewer elements are in use than may be
abbrev pub HasElementLeft : ℕ → Held → Type 0
HasElementLeft k (Coupons c) = c.run.used < most_used k
HasElementLeft k (Registers s) = Unit {0}
