-- SPDX-License-Identifier: Apache-2.0
-- What calls do with states in caller-owned memory (docs/MODEL.md, "States of a counter").
use Rattle.std.specs.Prelude.{◌≡◌, ◌≢◌, ℕ, ◌-◌, ◌*◌, ◌<◌, ◌≤◌, ◌==◌, ◌⊎◌, ◌&&◌, Bool, true, false, not, if◌then◌else◌, List, length, drop}
use Rattle.hll_base.specs.Reason.{number_of}
use Rattle.hll_base.specs.declared.error.Reason.{Reason}
use Rattle.hll_base.specs.declared.error.Reason.TheVariants.{Argument, Memory, Register}
use Rattle.hll_base.specs.declared.hll_type.HllType.TheVariants.{Hll8}
use Rattle.hll_sketch.specs.ByteRegisters.{ReadNeedsMemory}
use Rattle.hll_sketch.specs.Image.{IsReadAs}
use Rattle.hll_sketch.specs.Laws.{add_in_turn}
use Rattle.hll_sketch.specs.Value.{Sketch, IsLgK, IsLegal, is_empty, empty_sketch}
use Rattle.hll_state.specs.Counter.{sketch_in}
use Rattle.hll_state.specs.Header.{new_header}
use Rattle.hll_state.specs.Joined.{IsJoined, AreEnoughToMerge}
use Rattle.hll_state.specs.Memory.{HasHeader, IsState, IsStateOf, OfState, HasWidths, HasRoomIn, AreEnough, IsSettled, is_open}
use Rattle.hll_state.specs.Merged.{bit_of, HasRoomToMerge}
use Rattle.hll_state.specs.declared.header.Header.{Header}
use Rattle.hll_state.specs.declared.join.Joined.{Joined}
use Rattle.hll_state.specs.declared.join.Joined.TheVariants.{Done, NoRoom, OtherLgK}
use Rattle.hll_c.specs.Answers.{ok_code, buffer_code, RefusesWith}
use Rattle.hll_c.specs.Calls.{IsWidth, HasWidth}
use Rattle.hll_c.specs.Estimates.{IsEstimateOfContent}
use Rattle.hll_c.specs.declared.estimate.HllEstimate.{HllEstimate}

-- ---- a new state

-- a state of an empty sketch with a width of 8 bits, which records no widths
pub record IsNewState (lg_k : ℕ) (open_lg_k : Bool) (elements : List (List ℕ)) : Type 0 where
  pub sketch : IsStateOf elements (empty_sketch lg_k Hll8)
  pub widths : HasWidths elements 0
  pub lg_k_open : is_open elements ≡ open_lg_k

-- an lg_k, or 0 for an open one
abbrev pub MayBeLgK : ℕ → Type 0
MayBeLgK lg_k = IsLgK lg_k ⊎ (lg_k ≡ 0)

-- a new state of an lg_k, or one whose lg_k is open, and 4 until it is decided; or there are too few elements; or the lg_k is out
-- of range
pub data MakesState (lg_k : ℕ) (old new : List (List ℕ)) : ℕ → Type 0 where
  made : IsLgK lg_k → IsNewState lg_k false new → MakesState lg_k old new ok_code
  made_open : lg_k ≡ 0 → IsNewState 4 true new → MakesState lg_k old new ok_code
  few_elements : MayBeLgK lg_k → length old < 10 → new ≡ old → MakesState lg_k old new buffer_code
  no_lg_k : (MayBeLgK lg_k → ⊥) → new ≡ old → MakesState lg_k old new (number_of Argument)

-- ---- adding

-- a value can be added: the lg_k is not open
abbrev pub TakesValues : List (List ℕ) → Type 0
TakesValues elements = is_open elements ≡ false

-- this number of bytes is enough to add n coupons to a state, and no more than any state of its lg_k needs
pub record AreEnoughBytes (elements : List (List ℕ)) (n bytes : ℕ) : Type 0 where
  pub len : ℕ
  pub bytes_are : bytes ≡ 4 * len
  pub enough : AreEnough elements n len

-- Coupons are added in turn; or there is not enough room for them, the size becomes a number of bytes that is enough, and
-- nothing is added; or an argument is out of range or the elements are not a state, and nothing changes.
pub data AddsToState (InRange : Type 0) (cs : List ℕ) (old new : List (List ℕ)) (size_old size_new : ℕ) : ℕ → Type 0 where
  added : InRange → OfState old (λ x. IsStateOf new (add_in_turn x cs)) → size_new ≡ size_old → AddsToState InRange cs old new size_old size_new ok_code
  no_room : InRange → OfState old (IsStateOf new) → (HasRoomIn old (length cs) (length old) → ⊥) → AreEnoughBytes new (length cs) size_new
      → AddsToState InRange cs old new size_old size_new buffer_code
  not_added : (InRange × IsState old → ⊥) → new ≡ old → size_new ≡ size_old → AddsToState InRange cs old new size_old size_new (number_of Argument)

-- ---- reading

-- why reading a state fails: an argument is out of range or the elements are not a state; the state means a sketch that is not
-- legal, as a register is above 63 or a coupon has the value 0; or an allocation fails. Not every state that means such a sketch is
-- rejected.
pub data RefusesState (InRange : Type 0) (elements : List (List ℕ)) : Reason → Type 0 where
  state_argument : (InRange × IsState elements → ⊥) → RefusesState InRange elements Argument
  state_register : InRange → OfState elements (λ x. IsLegal x → ⊥) → RefusesState InRange elements Register
  state_memory : InRange → IsState elements → RefusesState InRange elements Memory

-- a sketch at the width of a number of bits
pub record HasWidthOfBits (bits : ℕ) (x y : Sketch) : Type 0 where
  pub width_is : IsWidth bits
  pub is : HasWidth width_is.width x y

-- the sketch of a state, at a width
abbrev pub IsOfState : ℕ → List (List ℕ) → Sketch → Type 0
IsOfState bits old y = OfState old (λ x. HasWidthOfBits bits x y)

-- an estimate needs no allocation
abbrev pub RefusesEstimateOfState : List (List ℕ) → Reason → Type 0
RefusesEstimateOfState elements r = RefusesState (Unit {0}) elements r × (r ≢ Memory)

-- nor does an estimate of a settled state
abbrev pub RefusesEstimateOfSettled : List (List ℕ) → Reason → Type 0
RefusesEstimateOfSettled elements r = RefusesState (IsSettled elements) elements r × (r ≢ Memory)

-- what is reported of a state
abbrev pub SaysEstimateOfState : List (List ℕ) → HllEstimate → Type 0
SaysEstimateOfState old e = OfState old (λ x. IsEstimateOfContent x.lg_k x.content e)

-- ---- merging

-- the code of a call whose sketches have different lg_k, if no bound was given
abbrev pub other_lg_k_code : ℕ
other_lg_k_code = 16

-- 0 for no bound, or an lg_k of at least k
abbrev pub IsBoundFor : ℕ → ℕ → Type 0
IsBoundFor lg_max_k k = (lg_max_k ≡ 0) ⊎ ((k ≤ lg_max_k) × (lg_max_k ≤ 21))

-- the least bound for a state: its lg_k, or 4 if that is open
abbrev pub least_bound : List (List ℕ) → ℕ → ℕ
least_bound elements k = if is_open elements then 4 else k

-- the elements are a state, and this is a bound for it
pub record IsStateUnder (lg_max_k : ℕ) (elements : List (List ℕ)) : Type 0 where
  pub header : Header
  pub has : HasHeader elements header
  pub bound : IsBoundFor lg_max_k (least_bound elements header.lg_k)

-- an lg_k is open, and a bound was given, which decides it
abbrev pub is_decided : ℕ → List (List ℕ) → Bool
is_decided lg_max_k elements = is_open elements && not (lg_max_k == 0)

-- a state before and after a sketch is merged into it
pub record Joins (lg_max_k others : ℕ) (y : Sketch) (old new : List (List ℕ)) (answer : Joined) : Type 0 where
  pub before : IsStateUnder lg_max_k old
  pub after : Header
  pub has : HasHeader new after
  pub is : IsJoined (not (lg_max_k == 0)) others y before.header (drop 10 old) after (drop 10 new) answer

-- A sketch is merged in, and its widths are recorded; an open lg_k stays open if the sketch is empty. Or there is not enough
-- room, the size becomes a number of bytes that is enough, and the sketch of the state is unchanged; or the lg_k differ, no bound
-- was given, and nothing changes.
pub data JoinsSketch (lg_max_k others : ℕ) (y : Sketch) (old new : List (List ℕ)) (size_old size_new : ℕ) : ℕ → Type 0 where
  joined : Joins lg_max_k others y old new Done → is_open new ≡ (is_open old && is_empty y) → size_new ≡ size_old → JoinsSketch lg_max_k others y old new size_old size_new ok_code
  no_room_to_join : (len : ℕ) → Joins lg_max_k others y old new (NoRoom len) → is_open new ≡ is_open old → size_new ≡ 4 * len
      → JoinsSketch lg_max_k others y old new size_old size_new buffer_code
  other_lg_k : Joins lg_max_k others y old new OtherLgK → new ≡ old → size_new ≡ size_old → JoinsSketch lg_max_k others y old new size_old size_new other_lg_k_code

-- A sketch is merged in. If the bound decides the lg_k of the state, which is empty then, the sketch is merged into a new state of
-- that lg_k. Or there is not enough room there, the size becomes a number of bytes that is enough, and nothing changes.
pub data JoinsUnder (lg_max_k others : ℕ) (y : Sketch) (old new : List (List ℕ)) (size_old size_new : ℕ) : ℕ → Type 0 where
  as_it_was : {code : ℕ} → is_decided lg_max_k old ≡ false → JoinsSketch lg_max_k others y old new size_old size_new code → JoinsUnder lg_max_k others y old new size_old size_new code
  at_bound : is_decided lg_max_k old ≡ true → IsLgK lg_max_k → (begun : List (List ℕ)) → IsNewState lg_max_k false begun → JoinsSketch lg_max_k others y begun new size_old size_new ok_code
      → JoinsUnder lg_max_k others y old new size_old size_new ok_code
  no_room_at_bound : is_decided lg_max_k old ≡ true → (len : ℕ) → AreEnoughToMerge y (new_header lg_max_k) len → (HasRoomToMerge (new_header lg_max_k) y (length old - 10) → ⊥) → new ≡ old → size_new ≡ 4 * len
      → JoinsUnder lg_max_k others y old new size_old size_new buffer_code

-- The sketch of an image is merged in; or an argument is out of range, the elements are not a state or the image is rejected,
-- and nothing changes.
pub data JoinsImage (lg_max_k : ℕ) (image : List ℕ) (old new : List (List ℕ)) (size_old size_new : ℕ) : ℕ → Type 0 where
  image_read : {code : ℕ} → (y : Sketch) → IsReadAs image y → JoinsUnder lg_max_k (bit_of y.width) y old new size_old size_new code → JoinsImage lg_max_k image old new size_old size_new code
  image_not_read : {r : Reason} → RefusesWith (IsStateUnder lg_max_k old) image r → (r ≡ Memory → ReadNeedsMemory image) → new ≡ old → size_new ≡ size_old
      → JoinsImage lg_max_k image old new size_old size_new (number_of r)

-- The sketch of another state is merged in; or an argument is out of range, one of the two is not a state, or the other one
-- means a sketch that is not legal, and nothing changes.
pub data JoinsState (lg_max_k : ℕ) (other old new : List (List ℕ)) (size_old size_new : ℕ) : ℕ → Type 0 where
  state_read : {code : ℕ} → (h : Header) → HasHeader other h → JoinsUnder lg_max_k h.widths (sketch_in h (drop 10 other)) old new size_old size_new code
      → JoinsState lg_max_k other old new size_old size_new code
  no_states : (IsStateUnder lg_max_k old × IsState other → ⊥) → new ≡ old → size_new ≡ size_old → JoinsState lg_max_k other old new size_old size_new (number_of Argument)
  register_above : IsStateUnder lg_max_k old → OfState other (λ y. IsLegal y → ⊥) → new ≡ old → size_new ≡ size_old → JoinsState lg_max_k other old new size_old size_new (number_of Register)
