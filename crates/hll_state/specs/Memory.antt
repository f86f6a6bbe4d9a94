-- SPDX-License-Identifier: Apache-2.0
-- States in caller-owned memory: a header in the first ten elements, and the coupons or registers after it
-- (docs/MODEL.md, "States of a counter").
use Rattle.std.specs.Prelude.{◌≡◌, ℕ, ◌+◌, ◌-◌, ◌/◌, ◌%◌, ◌≤◌, ◌==◌, Bool, List, length, drop, slice_index, Some}
use Rattle.hll_sketch.specs.Value.{Sketch}
use Rattle.hll_state.specs.Counter.{sketch_in, IsResolved}
use Rattle.hll_state.specs.CouponRun.{raws}
use Rattle.hll_state.specs.Header.{header_of, most_elements, IsWithin, HasRoom, HasShortTail, len_asked}
use Rattle.hll_state.specs.declared.header.Header.{Header}
use Rattle.hll_state.specs.declared.memory.Begun.{Begun}
use Rattle.hll_state.specs.declared.memory.Begun.TheVariants.{NoState, NoRoom, Room}

-- the elements begin with this header, and the elements after it are enough for what it says
pub record HasHeader (elements : List (List ℕ)) (h : Header) : Type 0 where
  pub there : 10 ≤ length elements
  pub read : header_of (raws elements) ≡ Some h
  pub within : IsWithin h (length elements - 10)

-- the lg_k of a state is open, as bit 5 of the second number says, until a sketch with coupons or registers is merged
abbrev pub is_open : List (List ℕ) → Bool
is_open elements = slice_index (raws elements) 1 / 32 % 2 == 1

-- the elements are a state
pub record IsState (elements : List (List ℕ)) : Type 0 where
  pub header : Header
  pub has : HasHeader elements header

-- the elements are a state of this sketch
pub record IsStateOf (elements : List (List ℕ)) (x : Sketch) : Type 0 where
  pub state : IsState elements
  pub is : x ≡ sketch_in state.header (drop 10 elements)

-- a state in this number of elements has room for n more coupons
abbrev pub HasRoomIn : List (List ℕ) → ℕ → ℕ → Type 0
HasRoomIn elements n len = (h : Header) → HasHeader elements h → HasRoom h n (len - 10)

-- the elements are a state, and `Is` holds for its sketch
pub record OfState (elements : List (List ℕ)) (Is : Sketch → Type 0) : Type 0 where
  pub sketch : Sketch
  pub was : IsStateOf elements sketch
  pub is : Is sketch

-- if the elements are a state, it records these widths
abbrev pub HasWidths : List (List ℕ) → ℕ → Type 0
HasWidths elements widths = (h : Header) → HasHeader elements h → h.widths ≡ widths

-- the header of a state before and after n coupons were added: it records the same widths, and elements that were enough for n
-- more coupons are enough for the state
pub record IsGrownBy (n : ℕ) (h g : Header) : Type 0 where
  pub widths : g.widths ≡ h.widths
  pub takes : (room : ℕ) → HasRoom h n room → HasRoom g 0 room

-- if elements were a state and are a state, at most n coupons were added
abbrev pub GrowsBy : ℕ → List (List ℕ) → List (List ℕ) → Type 0
GrowsBy n old new = (h : Header) → HasHeader old h → (g : Header) → HasHeader new g → IsGrownBy n h g

-- the sketch of a state can be read from the elements as they are, so that reading it changes none
abbrev pub IsSettled : List (List ℕ) → Type 0
IsSettled elements = (h : Header) → HasHeader elements h → IsResolved h (drop 10 elements)

-- a state is only read: its sketch and widths are unchanged, and it takes no more elements. Elements are unchanged if they hold
-- registers, if they hold coupons that ascend, or if they are not a state
pub record IsOnlyRead (old new : List (List ℕ)) : Type 0 where
  pub kept : IsState old → OfState old (IsStateOf new)
  pub grows : GrowsBy 0 old new
  pub resolved : (h : Header) → HasHeader old h → IsResolved h (drop 10 old) → new ≡ old
  pub unchanged : (IsState old → ⊥) → new ≡ old
  pub lg_k_open : is_open new ≡ is_open old

-- this number of elements is asked for; it is enough to add n coupons to a state, and no more than any state of its lg_k needs;
-- repeated coupons were dropped, unless the tail is short
pub record AreEnough (elements : List (List ℕ)) (n len : ℕ) : Type 0 where
  pub header : Header
  pub has : HasHeader elements header
  pub header_fits : 10 ≤ len
  pub room : HasRoom header n (len - 10)
  pub most : len ≤ 10 + most_elements header.lg_k
  pub asked : len ≡ len_asked header.lg_k header.held n
  pub short : HasShortTail header.held

-- ---- `begin`, which checks for room for n coupons

-- the elements are not a state, and are unchanged
pub record IsNone (old new : List (List ℕ)) : Type 0 where
  pub none : IsState old → ⊥
  pub same : new ≡ old

-- there is not enough room, the sketch and the widths are unchanged, and this number of elements is enough
pub record LacksRoom (n : ℕ) (old new : List (List ℕ)) (len : ℕ) : Type 0 where
  pub kept : OfState old (IsStateOf new)
  pub grows : GrowsBy 0 old new
  pub lacks : HasRoomIn old n (length old) → ⊥
  pub enough : AreEnough new n len
  pub lg_k_open : is_open new ≡ is_open old

-- there is room, and this header with the elements after the first ten has the sketch and the widths of the state
pub record IsReady (n : ℕ) (old new : List (List ℕ)) (h : Header) : Type 0 where
  pub there : 10 ≤ length old
  pub within : IsWithin h (length old - 10)
  pub room : HasRoom h n (length old - 10)
  pub means : OfState old (λ x. x ≡ sketch_in h (drop 10 new))
  pub keeps : (g : Header) → HasHeader old g → (m len : ℕ) → HasRoom g m len → HasRoom h m len
  pub widths : HasWidths old h.widths
  pub lg_k_open : is_open new ≡ is_open old

abbrev pub IsBegun : ℕ → List (List ℕ) → List (List ℕ) → Begun → Type 0
IsBegun n old new NoState = IsNone old new
IsBegun n old new (NoRoom len) = LacksRoom n old new len
IsBegun n old new (Room h) = IsReady n old new h
