-- SPDX-License-Identifier: Apache-2.0
use Rattle.std.proofs.Common.{◌≡◌, ◌∙◌, None, sym, ap}
use Rattle.hll_base.specs.declared.hll_type.HllType.TheVariants.{Hll4, Hll6, Hll8}
use Rattle.hll_sketch.specs.Value.{is_empty}
use Rattle.hll_sketch.specs.Layout as layouts
use Rattle.hll_sketch.specs.Layout.{SketchLayout, layout_of, sketch_of}
use Rattle.hll_sketch.proofs.Emptiness.{zeros-empty}
use Rattle.hll_sketch.proofs.sketch.HllSketch.is_empty.Goals as goal

pub returns-in-Array4 : goal.returns-in-Array4
returns-in-Array4 g c =
    let x : SketchLayout = record { lg_k = c.self.inside.lg_config_k; layout = layouts.array Hll4 c.in-Array4.array.stored c.in-Array4.array.exceptions } in
    let is : x ≡ c.args.self.now = (λ i. let y : SketchLayout = record { lg_k = c.self.inside.lg_config_k; layout = layout_of (sym c.in-Array4.is i) } in y) ∙ c.self.view_is in
    c.is_empty.ensures ∙ zeros-empty c.in-Array4.array.stored.registers ∙ ap (λ y. is_empty (sketch_of y)) is

pub returns-in-Array6 : goal.returns-in-Array6
returns-in-Array6 g c =
    let x : SketchLayout = record { lg_k = c.self.inside.lg_config_k; layout = layouts.array Hll6 c.in-Array6.array None } in
    let is : x ≡ c.args.self.now = (λ i. let y : SketchLayout = record { lg_k = c.self.inside.lg_config_k; layout = layout_of (sym c.in-Array6.is i) } in y) ∙ c.self.view_is in
    c.is_empty-in-Array6.ensures.empty ∙ zeros-empty c.in-Array6.array.registers ∙ ap (λ y. is_empty (sketch_of y)) is

pub returns-in-Array8 : goal.returns-in-Array8
returns-in-Array8 g c =
    let x : SketchLayout = record { lg_k = c.self.inside.lg_config_k; layout = layouts.array Hll8 c.in-Array8.array None } in
    let is : x ≡ c.args.self.now = (λ i. let y : SketchLayout = record { lg_k = c.self.inside.lg_config_k; layout = layout_of (sym c.in-Array8.is i) } in y) ∙ c.self.view_is in
    c.is_empty-in-Array8.ensures.empty ∙ zeros-empty c.in-Array8.array.registers ∙ ap (λ y. is_empty (sketch_of y)) is
