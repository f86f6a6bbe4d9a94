-- SPDX-License-Identifier: Apache-2.0
-- States in longer and in shorter memory (docs/MODEL.md, "States of a counter").
use Rattle.std.specs.Prelude.{◌≡◌, ℕ, ◌+◌, ◌-◌, ◌^◌, ◌≤◌, Bool, List, ◌++◌, length, take, drop}
use Rattle.hll_sketch.specs.Value.{Sketch}
use Rattle.hll_state.specs.Counter.{sketch_in}
use Rattle.hll_state.specs.Header.{elements_for}
use Rattle.hll_state.specs.Joined.{AreEnoughToMerge, started_header}
use Rattle.hll_state.specs.Memory.{HasHeader, HasRoomIn, AreEnough, is_open}
use Rattle.hll_state.specs.Merged.{HasRoomToMerge}
use Rattle.hll_state.specs.declared.header.Header.{Header}
use Rattle.hll_state.specs.declared.header.Held.{Held}
use Rattle.hll_state.specs.declared.header.Held.TheVariants.{Coupons, Registers}

-- the number of elements after the header that a state takes
abbrev pub needed : ℕ → Held → ℕ
needed k (Coupons c) = elements_for k c.run.used
needed k (Registers s) = 2 ^ (k - 2)

-- other elements are a state with this header, and of the same sketch; its lg_k is open if that of the first is
pub record IsSameState (elements : List (List ℕ)) (h : Header) (others : List (List ℕ)) : Type 0 where
  pub has : HasHeader others h
  pub lg_k_open : is_open others ≡ is_open elements
  pub same : sketch_in h (drop 10 others) ≡ sketch_in h (drop 10 elements)

-- ---- laws

-- a prefix of a state is the same state, if it has the elements that the state takes
abbrev pub PrefixIsState : Type 0
PrefixIsState = (elements : List (List ℕ)) (h : Header) (m : ℕ) → HasHeader elements h → needed h.lg_k h.held ≤ m → IsSameState elements h (take (10 + m) elements)

-- a state is the same state in longer memory, whatever the elements after it hold
abbrev pub LongerIsState : Type 0
LongerIsState = (elements more : List (List ℕ)) (h : Header) → HasHeader elements h → IsSameState elements h (elements ++ more)

-- a state that is moved is the same state, if the elements that it takes were copied, whatever the others hold
abbrev pub MovedIsState : Type 0
MovedIsState = (elements others : List (List ℕ)) (h : Header) → HasHeader elements h
    → take (10 + needed h.lg_k h.held) others ≡ take (10 + needed h.lg_k h.held) elements → IsSameState elements h others

-- a state that is moved to as many elements as were asked for has room for the coupons that they were asked for
abbrev pub AskedIsEnough : Type 0
AskedIsEnough = (elements others : List (List ℕ)) (n len : ℕ) (are : AreEnough elements n len) → IsSameState elements are.header others → len ≤ length others
    → HasRoomIn others n (length others)

-- and for the sketch that they were asked for
abbrev pub AskedIsEnoughToJoin : Type 0
AskedIsEnoughToJoin = (elements others : List (List ℕ)) (h : Header) (bounded : Bool) (y : Sketch) (len : ℕ) → AreEnoughToMerge y (started_header bounded h y) len
    → IsSameState elements h others → len ≤ length others → (g : Header) → HasHeader others g → HasRoomToMerge (started_header bounded g y) y (length others - 10)
