-- SPDX-License-Identifier: Apache-2.0
-- Merging a sketch into a union: a bound, and a gadget that is a sketch of width 8 (docs/MODEL.md, "Merging").
use Rattle.std.specs.Prelude.{ℕ, ◌==◌, nat_le, min, ◌&&◌, if◌then◌else◌, List, [], ◌∷◌}
use Rattle.std.specs.FinSet.{union}
use Rattle.hll_coupons.specs.Fold.{fold_to, pairs}
use Rattle.hll_base.specs.declared.hll_type.HllType.TheVariants.{Hll8}
use Rattle.hll_registers.specs.declared.estimate_state.EstimateState.{EstimateState}
use Rattle.hll_registers.specs.State.{cleared_state}
use Rattle.hll_sketch.specs.Value.{Sketch, Content, coupons, registers, pairs_of, is_empty, empty_sketch}
use Rattle.hll_sketch.specs.Adding.{add}

-- the gadget of an empty union
abbrev pub empty_union : ℕ → Sketch
empty_union bound = empty_sketch bound Hll8

-- if the gadget is empty and has the same lg_k, it becomes the coupons with their table size; else they are added
abbrev pub merge_coupons : Sketch → Sketch → Sketch
merge_coupons g x = if is_empty g && (g.lg_k == x.lg_k) then record g { content = x.content } else add g (pairs_of x)

-- the source's estimate state if the gadget is empty and the source's lg_k is within the bound, else the cleared one
abbrev pub state_after_merge : ℕ → Sketch → ℕ → EstimateState → EstimateState
state_after_merge bound g k state = if is_empty g && nat_le k bound then state else cleared_state

-- at the smaller lg_k the greater value of both at each slot, with an estimate state
abbrev pub max_registers : Sketch → ℕ → List ℕ → EstimateState → Sketch
max_registers g k R state = let e = min g.lg_k k in
    record { lg_k = e; width = g.width; content = registers (fold_to (union (pairs_of g) (pairs R)) e) state }

-- the maximum of registers is taken at the smaller lg_k
abbrev pub merge_registers : ℕ → Sketch → ℕ → List ℕ → EstimateState → Sketch
merge_registers bound g k R state = max_registers g k R (state_after_merge bound g k state)

abbrev pub merge_content : ℕ → Sketch → Sketch → Content → Sketch
merge_content bound g x (coupons S size) = merge_coupons g x
merge_content bound g x (registers R state) = merge_registers bound g x.lg_k R state

-- the gadget after a sketch is merged; an empty sketch changes nothing
abbrev pub merge : ℕ → Sketch → Sketch → Sketch
merge bound g x = if is_empty x then g else merge_content bound g x x.content

-- sketches merged in turn
abbrev pub merge_all : ℕ → Sketch → List Sketch → Sketch
merge_all bound g [] = g
merge_all bound g (x ∷ xs) = merge_all bound (merge bound g x) xs
