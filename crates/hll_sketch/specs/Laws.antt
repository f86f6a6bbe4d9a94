-- SPDX-License-Identifier: Apache-2.0
-- The laws of adding and merging (docs/MODEL.md, "Laws of adding and merging").
use Rattle.std.specs.Prelude.{◌≡◌, ℕ, ◌<◌, true, List, [], ◌∷◌, ◌++◌, length, take, fold}
use Rattle.std.specs.FinSet.{union}
use Rattle.hll_coupons.specs.Pair.{Pairs, set_of}
use Rattle.hll_registers.specs.Store.{Stored, update_with_coupon}
use Rattle.hll_sketch.specs.Value.{Sketch, is_empty, ArePairs, IsLegal}
use Rattle.hll_base.specs.declared.error.Reason.{Reason}
use Rattle.hll_sketch.specs.Adding.{add}
use Rattle.hll_sketch.specs.Fault.{IsFault}
use Rattle.hll_sketch.specs.Image.{IsReadAs}
use Rattle.hll_sketch.specs.Joined.{least_lg_k}
use Rattle.hll_sketch.specs.Written.{Written}
use Rattle.hll_sketch.specs.Merging.{merge, empty_union}

-- adding pairs and then others is adding their union
abbrev pub AddOfAdd : Type 0
AddOfAdd = (x : Sketch) (T U : Pairs) → add (add x T) U ≡ add x (union T U)

-- one coupon after the other is added
abbrev pub add_in_turn : Sketch → List ℕ → Sketch
add_in_turn x [] = x
add_in_turn x (c ∷ cs) = add_in_turn (add x (set_of (c ∷ []))) cs

-- a prefix of the coupons was added in turn
pub record AddsSome (old new : Sketch) (cs : List ℕ) : Type 0 where
  pub count : ℕ
  pub less : count < length cs
  pub added : new ≡ add_in_turn old (take count cs)

-- a prefix of the coupons was added in turn to registers
pub record PutsSome (old new : Stored) (cs : List ℕ) : Type 0 where
  pub count : ℕ
  pub less : count < length cs
  pub put : new ≡ fold update_with_coupon old (take count cs)

-- after a list of updates the sketch depends only on the set of its coupons
abbrev pub AddEach : Type 0
AddEach = (x : Sketch) (c : ℕ) (cs : List ℕ) → add_in_turn x (c ∷ cs) ≡ add x (set_of (c ∷ cs))

-- merging an empty sketch changes nothing
abbrev pub MergeOfEmpty : Type 0
MergeOfEmpty = (bound : ℕ) (g x : Sketch) → is_empty x ≡ true → merge bound g x ≡ g

-- ---- the lg_k of a union

-- what a union is given: a sketch to merge, or pairs to add
pub data Event : Type 0 where
  of_sketch : Sketch → Event
  of_pairs : Pairs → Event

-- the gadget after one event, and after all events in turn
abbrev pub gadget_after : ℕ → Sketch → Event → Sketch
gadget_after bound g (of_sketch x) = merge bound g x
gadget_after bound g (of_pairs T) = add g T

abbrev pub gadget_after_all : ℕ → Sketch → List Event → Sketch
gadget_after_all bound g [] = g
gadget_after_all bound g (e ∷ es) = gadget_after_all bound (gadget_after bound g e) es

-- the merged sketches among the events
abbrev pub merged_sketches : List Event → List Sketch
merged_sketches [] = []
merged_sketches (of_sketch x ∷ es) = x ∷ merged_sketches es
merged_sketches (of_pairs T ∷ es) = merged_sketches es

-- the lg_k of a union is the smallest of its bound and of the lg_k of the merged sketches in registers that are not all 0
abbrev pub UnionLgK : Type 0
UnionLgK = (bound : ℕ) (es : List Event) → (gadget_after_all bound (empty_union bound) es).lg_k ≡ least_lg_k bound (merged_sketches es)

-- ---- legal values stay legal

abbrev pub AddIsLegal : Type 0
AddIsLegal = (x : Sketch) (T : Pairs) → IsLegal x → ArePairs T → IsLegal (add x T)

abbrev pub MergeIsLegal : Type 0
MergeIsLegal = (bound : ℕ) (g x : Sketch) → IsLegal g → IsLegal x → IsLegal (merge bound g x)

-- ---- what is written is read back

-- whatever bytes come after them, the bytes are read as this sketch and no other, and have no fault
pub record IsReadBackAs (written more : List ℕ) (x : Sketch) : Type 0 where
  pub is_read : IsReadAs (written ++ more) x
  pub no_other : (y : Sketch) → IsReadAs (written ++ more) y → y ≡ x
  pub no_fault : (r : Reason) → IsFault (written ++ more) r → ⊥

abbrev pub WrittenIsReadBack : Type 0
WrittenIsReadBack = (bytes more : List ℕ) (x : Sketch) → IsLegal x → Written bytes x → IsReadBackAs bytes more x
