-- SPDX-License-Identifier: Apache-2.0
use Rattle.std.proofs.Common.{◌≡◌, ℕ, true, List, sym, ap, subst, ◌∙◌, inl, inr}
use Rattle.std.specs.FinSet.{len, union}
use Rattle.hll_coupons.specs.Pair.{Pairs}
use Rattle.hll_coupons.specs.Table.{Table, coupons_in, coupons_of}
use Rattle.hll_registers.specs.Store.{Stored}
use Rattle.hll_sketch.specs.Adding.{add, content_for, content_with}
use Rattle.hll_sketch.specs.Layout as layouts
use Rattle.hll_sketch.specs.Layout.{SketchLayout, layout_of, sketch_of, IsLayoutFor, IsSize}
use Rattle.hll_sketch.specs.Stage.{can_hold}
use Rattle.hll_sketch.specs.Union.{can_hold_all}
use Rattle.hll_sketch.specs.Value.{Sketch, coupons}
use Rattle.hll_sketch.proofs.Merges.{in_turn}
use Rattle.hll_sketch.proofs.AddedToRegisters.{in_bytes, added_as}
use Rattle.hll_sketch.proofs.Steps.{stage_stays}
use Rattle.hll_sketch.proofs.sketch.HllSketch.add_each.Goals as goal
use Rattle.hll_sketch.proofs.sketch.HllSketch.add_each.Goals.{in-List, in-Set, in-Array8}

-- a table with more coupons, which it has room for
kept : (k : ℕ) (t u : Table) (T : Pairs) → IsSize k t.lg_size → can_hold t.lg_size (len (union (coupons_of t) T)) ≡ true → u.lg_size ≡ t.lg_size → coupons_of u ≡ union (coupons_of t) T →
    coupons (coupons_of u) u.lg_size ≡ content_with k (coupons (coupons_of t) t.lg_size) T
kept k t u T size room same members =
    (λ i. coupons (members i) (same i)) ∙ ap (content_for k (union (coupons_of t) T)) (sym (stage_stays k t.lg_size (len (union (coupons_of t) T)) size room))

pub returns : goal.returns
returns g c =
    let k : ℕ = c.self.inside.lg_config_k in
    let T : Pairs = coupons_of c.args.table.now in
    elim c.match-self.branch [
      | in-List w ↦
          let t : Table = w.in-List.list in
          let u : Table = w.update_each.new.list in
          let x : SketchLayout = record { lg_k = k; layout = layouts.list w.in-List.hll_type t } in
          let is : x ≡ c.args.self.now = (λ i. let y : SketchLayout = record { lg_k = k; layout = layout_of (sym w.in-List.is i) } in y) ∙ c.self.view_is in
          let legal : IsLayoutFor k (layouts.list w.in-List.hll_type t) = subst (IsLayoutFor k) (ap layout_of w.in-List.is) c.self.invariant.1 in
          let room : can_hold t.lg_size (len (union (coupons_of t) T)) ≡ true = ap (λ (y : SketchLayout). can_hold_all y.layout T) is ∙ c.requires.room in
          ap (λ s. let y : SketchLayout = record { lg_k = s.lg_config_k; layout = layout_of s.mode } in sketch_of y) w.self-inside-is
          ∙ (λ i. let y : Sketch = record { lg_k = k; width = w.in-List.hll_type; content = kept k t u T (inl legal) room w.update_each.ensures.size w.update_each.ensures.members i } in y)
          ∙ ap (λ y. add (sketch_of y) T) is
      | in-Set w ↦
          let t : Table = w.in-Set.set in
          let u : Table = w.update_each-in-Set.new.self in
          let x : SketchLayout = record { lg_k = k; layout = layouts.set w.in-Set.hll_type t } in
          let is : x ≡ c.args.self.now = (λ i. let y : SketchLayout = record { lg_k = k; layout = layout_of (sym w.in-Set.is i) } in y) ∙ c.self.view_is in
          let legal : IsLayoutFor k (layouts.set w.in-Set.hll_type t) = subst (IsLayoutFor k) (ap layout_of w.in-Set.is) c.self.invariant.1 in
          let room : can_hold t.lg_size (len (union (coupons_of t) T)) ≡ true = ap (λ (y : SketchLayout). can_hold_all y.layout T) is ∙ c.requires.room in
          ap (λ s. let y : SketchLayout = record { lg_k = s.lg_config_k; layout = layout_of s.mode } in sketch_of y) w.self-inside-is
          ∙ (λ i. let y : Sketch = record { lg_k = k; width = w.in-Set.hll_type; content = kept k t u T (inr (legal.0, legal.1)) room w.update_each-in-Set.ensures.size w.update_each-in-Set.ensures.members i } in y)
          ∙ ap (λ y. add (sketch_of y) T) is
      | in-Array8 w ↦
          let a : Stored = w.in-Array8.array in
          let order : List ℕ = coupons_in c.args.table.now.buckets in
          let is : in_bytes k a ≡ c.args.self.now = (λ i. let y : SketchLayout = record { lg_k = k; layout = layout_of (sym w.in-Array8.is i) } in y) ∙ c.self.view_is in
          let here : a.lg_k ≡ k = subst (IsLayoutFor k) (ap layout_of w.in-Array8.is) c.self.invariant.1 in
          ap (λ s. let y : SketchLayout = record { lg_k = s.lg_config_k; layout = layout_of s.mode } in sketch_of y) w.self-inside-is
          ∙ added_as k a w.add_each_to.new.array order here w.add_each_to.ensures.lg_k w.add_each_to.ensures.added
          ∙ in_turn (sketch_of (in_bytes k a)) order c.requires.some ∙ ap (λ y. add (sketch_of y) T) is
    ]
