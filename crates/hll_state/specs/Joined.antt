-- SPDX-License-Identifier: Apache-2.0
-- Images and states that are merged into a state (docs/MODEL.md, "States of a counter").
use Rattle.std.specs.Prelude.{◌≡◌, ℕ, ◌+◌, ◌-◌, ◌≤◌, ◌==◌, Bool, true, false, not, ◌&&◌, nat_le, if◌then◌else◌, bit_or, List, length}
use Rattle.hll_base.specs.declared.hll_type.HllType.TheVariants.{Hll8}
use Rattle.hll_sketch.specs.Merging.{merge}
use Rattle.hll_sketch.specs.Value.{Sketch, IsLgK, is_empty, empty_sketch}
use Rattle.hll_state.specs.Counter.{sketch_in}
use Rattle.hll_state.specs.Header.{new_header, most_elements, HasRoom, IsWithin, HasShortTail}
use Rattle.hll_state.specs.Merged.{HasSomeRegister, HasRoomToMerge, is_unused, len_asked_for}
use Rattle.hll_state.specs.declared.header.Header.{Header}
use Rattle.hll_state.specs.declared.join.Joined.{Joined}
use Rattle.hll_state.specs.declared.join.Joined.TheVariants.{Done, NoRoom, OtherLgK}

-- ---- lg_k

-- no bound was given, and a sketch that is not empty has another lg_k
abbrev pub lg_ks_differ : Bool → ℕ → Sketch → Bool
lg_ks_differ bounded k y = not bounded && (not (is_empty y) && not (k == y.lg_k))

-- then the sketch is not merged, unless the first sketch is empty
abbrev pub is_refused : Bool → Sketch → Sketch → Bool
is_refused bounded x y = lg_ks_differ bounded x.lg_k y && not (is_empty x)

-- an empty sketch is merged: without a bound, an empty sketch takes its lg_k if that is greater
abbrev pub raised : Bool → ℕ → Sketch → Sketch
raised bounded k x = if not bounded && (is_empty x && not (nat_le k x.lg_k)) then empty_sketch k Hll8 else x

-- what a sketch is merged into: an empty sketch takes the other lg_k, if no bound was given
abbrev pub started : Bool → Sketch → Sketch → Sketch
started bounded x y = if is_empty y then raised bounded y.lg_k x else (if lg_ks_differ bounded x.lg_k y then empty_sketch y.lg_k Hll8 else x)

-- the header of an empty sketch at another lg_k
abbrev pub restarted : ℕ → ℕ → Header
restarted k widths = record (new_header k) { widths = widths }

-- the header under which a sketch that is not empty is merged
abbrev pub started_header : Bool → Header → Sketch → Header
started_header bounded h y = if lg_ks_differ bounded h.lg_k y then restarted y.lg_k h.widths else h

-- the union of both, under the lg_k of the first
abbrev pub joined : Bool → Sketch → Sketch → Sketch
joined bounded x y = merge (started bounded x y).lg_k (started bounded x y) y

-- the widths of all merged sketches that are not empty, or of all if each is empty
abbrev pub widths_after : ℕ → ℕ → Bool → Bool → ℕ
widths_after widths others is_first_empty is_second_empty = if is_first_empty
    then (if is_second_empty then bit_or widths others else others)
    else (if is_second_empty then widths else bit_or widths others)

-- an empty sketch was merged, and widths were set
pub record JoinsEmpty (bounded : Bool) (widths k : ℕ) (old new : Header) (body : List (List ℕ)) : Type 0 where
  pub within : IsWithin old (length body) → IsWithin new (length body)
  pub is : IsWithin old (length body) → HasSomeRegister (sketch_in old body) → sketch_in new body ≡ raised bounded k (sketch_in old body)
  pub widths_are : new.widths ≡ widths
  pub takes : (room : ℕ) → HasRoom old 0 room → HasRoom new 0 room

-- ---- what merging gives

-- a sketch was merged, and widths were set; the state takes no more elements than were enough to merge it
pub record IsMerged (widths : ℕ) (y x : Sketch) (old new : Header) (z : Sketch) : Type 0 where
  pub is : HasSomeRegister x → z ≡ merge old.lg_k x y
  pub widths_are : new.widths ≡ widths
  pub takes : (room : ℕ) → HasRoomToMerge old y room → HasRoom new 0 room

-- this number of elements is asked for and enough to merge a sketch, and no more than any state of the lg_k needs
pub record AreEnoughToMerge (y : Sketch) (h : Header) (len : ℕ) : Type 0 where
  pub header_fits : 10 ≤ len
  pub lg_k : IsLgK h.lg_k
  pub room : HasRoomToMerge h y (len - 10)
  pub most : len ≤ 10 + most_elements h.lg_k
  pub asked : len ≡ len_asked_for h y

-- there is not enough room, the sketch and the widths of the state are unchanged, and this number of elements is enough
pub record LacksRoomToMerge (y : Sketch) (old : Header) (old_body : List (List ℕ)) (new : Header) (new_body : List (List ℕ)) (len : ℕ) : Type 0 where
  pub kept : sketch_in new new_body ≡ sketch_in old old_body
  pub widths : new.widths ≡ old.widths
  pub keeps : (room : ℕ) → HasRoom old 0 room → HasRoom new 0 room
  pub lacks : HasRoomToMerge old y (length old_body) → ⊥
  pub enough : AreEnoughToMerge y new len
  pub short : HasShortTail new.held

-- a sketch is merged; or there is not enough room, and the sketch of the state is unchanged
abbrev pub MergesInto : ℕ → Sketch → Header → List (List ℕ) → Header → List (List ℕ) → Joined → Type 0
MergesInto widths y old old_body new new_body Done = IsMerged widths y (sketch_in old old_body) old new (sketch_in new new_body)
MergesInto widths y old old_body new new_body (NoRoom len) = LacksRoomToMerge y old old_body new new_body len
MergesInto widths y old old_body new new_body OtherLgK = ⊥

-- a sketch is merged into the empty one at its lg_k; or there is not enough room, and the header is unchanged
abbrev pub Restarts : ℕ → Sketch → Header → List (List ℕ) → Header → List (List ℕ) → Joined → Type 0
Restarts widths y old old_body new new_body Done = IsMerged widths y (empty_sketch y.lg_k Hll8) (restarted y.lg_k old.widths) new (sketch_in new new_body)
Restarts widths y old old_body new new_body (NoRoom len) = (new ≡ old) × (HasRoomToMerge (restarted y.lg_k old.widths) y (length old_body) → ⊥) × AreEnoughToMerge y (restarted y.lg_k old.widths) len
Restarts widths y old old_body new new_body OtherLgK = ⊥

-- ---- what `Header::join` gives

-- the sketches are merged, of the same lg_k or under a bound; for the widths, the first is empty if no element is in use. The
-- state takes no more elements than were enough for it before and to merge the other
pub record AreJoined (bounded : Bool) (others : ℕ) (y x : Sketch) (old new : Header) (z : Sketch) : Type 0 where
  pub accepted : HasSomeRegister x → is_refused bounded x y ≡ false
  pub is : HasSomeRegister x → z ≡ joined bounded x y
  pub empty : HasSomeRegister x → is_unused old.held ≡ is_empty x
  pub takes : (room : ℕ) → HasRoom old 0 room → HasRoomToMerge (started_header bounded old y) y room → HasRoom new 0 room
  pub widths : new.widths ≡ widths_after old.widths others (is_unused old.held) (is_empty y)

-- there is not enough room, the sketch of the state is unchanged, and this number of elements is enough
pub record LacksRoomToJoin (bounded : Bool) (y x : Sketch) (old new : Header) (z : Sketch) (room len : ℕ) : Type 0 where
  pub kept : z ≡ x
  pub widths : new.widths ≡ old.widths
  pub accepted : HasSomeRegister x → is_refused bounded x y ≡ false
  pub keeps : (m : ℕ) → HasRoom old 0 m → HasRoom new 0 m
  pub lacks : HasRoomToMerge (started_header bounded old y) y room → ⊥
  pub enough : AreEnoughToMerge y (started_header bounded new y) len
  pub short : HasShortTail new.held

-- neither is empty, they have different lg_k, and no bound was given; nothing changes
pub record HasOtherLgK (bounded : Bool) (y x : Sketch) (old : Header) (old_body : List (List ℕ)) (new : Header) (new_body : List (List ℕ)) : Type 0 where
  pub same : new ≡ old
  pub unchanged : new_body ≡ old_body
  pub refused : HasSomeRegister x → is_refused bounded x y ≡ true

abbrev pub IsJoined : Bool → ℕ → Sketch → Header → List (List ℕ) → Header → List (List ℕ) → Joined → Type 0
IsJoined bounded others y old old_body new new_body Done = AreJoined bounded others y (sketch_in old old_body) old new (sketch_in new new_body)
IsJoined bounded others y old old_body new new_body (NoRoom len) = LacksRoomToJoin bounded y (sketch_in old old_body) old new (sketch_in new new_body) (length old_body) len
IsJoined bounded others y old old_body new new_body OtherLgK = HasOtherLgK bounded y (sketch_in old old_body) old old_body new new_body
