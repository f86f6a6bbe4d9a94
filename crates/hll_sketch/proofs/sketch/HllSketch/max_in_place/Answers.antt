-- SPDX-License-Identifier: Apache-2.0
use Rattle.std.proofs.Common.{◌≡◌, ◌^◌, None, sym, ap, subst, ◌∙◌, arith}
use Rattle.hll_base.specs.declared.hll_type.HllType.TheVariants.{Hll8}
use Rattle.hll_registers.specs.Store.{Stored}
use Rattle.hll_sketch.specs.Layout as layouts
use Rattle.hll_sketch.specs.Layout.{SketchLayout, layout_of, sketch_of, IsLayoutFor}
use Rattle.hll_sketch.specs.Value.{IsLegal}
use Rattle.hll_sketch.proofs.Merges.{max_in_place_as}
use Rattle.hll_sketch.proofs.sketch.HllSketch.max_in_place.Goals as goal

pub merge_from-requires : goal.merge_from-requires
merge_from-requires g c =
    let same = subst (IsLayoutFor c.self.inside.lg_config_k) (ap layout_of c.in-Array8.is) c.self.invariant.1 in
    omega (arith, c.requires.within, ap (λ (y : SketchLayout). y.lg_k) c.self.view_is, same)

pub returns : goal.returns
returns g c =
    let source : Stored = g.R.Registers.stored c.args.source.now in
    let a : Stored = c.in-Array8.array in
    let x : SketchLayout = record { lg_k = c.self.inside.lg_config_k; layout = layouts.array Hll8 a None } in
    let is : x ≡ c.args.self.now = (λ i. let y : SketchLayout = record { lg_k = c.self.inside.lg_config_k; layout = layout_of (sym c.in-Array8.is i) } in y) ∙ c.self.view_is in
    let same : IsLayoutFor c.self.inside.lg_config_k (layouts.array Hll8 a None) = subst (IsLayoutFor c.self.inside.lg_config_k) (ap layout_of c.in-Array8.is) c.self.invariant.1 in
    let legal : IsLegal (sketch_of x) = subst (λ y. IsLegal (sketch_of y)) (sym is) c.value_is_legal.ensures in
    max_in_place_as c.self.inside.lg_config_k c.args.self.now a c.merge_from.new.dst source is c.self.invariant.0 same
    (legal.content.0.size ∙ ap (λ k. 2 ^ k) (sym same)) c.merge_from.ensures (omega (arith, c.requires.within, ap (λ (y : SketchLayout). y.lg_k) c.self.view_is, same))
