-- SPDX-License-Identifier: Apache-2.0
use Rattle.std.proofs.Common.{◌≡◌, ◌≤◌, ◌^◌, ℕ, length, sym, ap, subst, ◌∙◌}
use Rattle.hll_coupons.specs.Table.{Table, coupons_in, IsTable}
use Rattle.hll_sketch.specs.Layout as layouts
use Rattle.hll_sketch.specs.Layout.{SketchLayout, layout_of, sketch_of, IsLayoutFor}
use Rattle.hll_sketch.specs.Value.{IsLegal}
use Rattle.hll_sketch.proofs.LegalLayouts.{list_legal, set_legal}
use Rattle.hll_sketch.proofs.sketch.HllSketch.value_is_legal.Goals as goal

pub returns-in-List : goal.returns-in-List
returns-in-List g c =
    let k : ℕ = c.self.inside.lg_config_k in
    let x : SketchLayout = record { lg_k = k; layout = layouts.list c.in-List.hll_type c.in-List.list } in
    let is : x ≡ c.args.self.now = (λ i. let y : SketchLayout = record { lg_k = k; layout = layout_of (sym c.in-List.is i) } in y) ∙ c.self.view_is in
    let legal : IsLayoutFor k (layouts.list c.in-List.hll_type c.in-List.list) = subst (IsLayoutFor k) (ap layout_of c.in-List.is) c.self.invariant.1 in
    subst (λ y. IsLegal (sketch_of y)) is
    (list_legal k c.in-List.hll_type c.in-List.list c.self.invariant.0 legal (subst IsTable c.container.ensures.same c.table_is_legal.ensures.table)
    (subst (λ (t : Table). length (coupons_in t.buckets) ≤ 2 ^ t.lg_size) c.container.ensures.same c.table_is_legal.ensures.within))

pub returns-in-Set : goal.returns-in-Set
returns-in-Set g c =
    let k : ℕ = c.self.inside.lg_config_k in
    let x : SketchLayout = record { lg_k = k; layout = layouts.set c.in-Set.hll_type c.in-Set.set } in
    let is : x ≡ c.args.self.now = (λ i. let y : SketchLayout = record { lg_k = k; layout = layout_of (sym c.in-Set.is i) } in y) ∙ c.self.view_is in
    let legal : IsLayoutFor k (layouts.set c.in-Set.hll_type c.in-Set.set) = subst (IsLayoutFor k) (ap layout_of c.in-Set.is) c.self.invariant.1 in
    subst (λ y. IsLegal (sketch_of y)) is
    (set_legal k c.in-Set.hll_type c.in-Set.set c.self.invariant.0 legal (subst IsTable c.container-in-Set.ensures.same c.table_is_legal-in-Set.ensures.table))
