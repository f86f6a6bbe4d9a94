-- SPDX-License-Identifier: Apache-2.0
use Rattle.std.proofs.Common.{◌≡◌, ◌∙◌, [], ◌∷◌, refl, sym, ap}
use Rattle.std.specs.FinSet.{insert, len}
use Rattle.hll_coupons.specs.Pair.{set_of}
use Rattle.hll_coupons.specs.Table.{Table, coupons_of}
use Rattle.hll_sketch.specs.Adding.{content_with}
use Rattle.hll_sketch.specs.Layout as layouts
use Rattle.hll_sketch.specs.Layout.{SketchLayout, layout_of, content_in, can_hold_with}
use Rattle.std.proofs.lemmas.Result.{IfOk-weaker}
use Rattle.hll_sketch.proofs.Keeping.{content_for_as, holds_as}
use Rattle.hll_sketch.proofs.sketch.HllSketch.promoted.Goals as goal

pub promoted_table-requires-clause-overflows : goal.promoted_table-requires-clause-overflows
promoted_table-requires-clause-overflows g c =
    let t : Table = c.container.result.now in
    let u : Table = c.in-List.list in
    let x : SketchLayout = record { lg_k = c.self.inside.lg_config_k; layout = layouts.list c.in-List.hll_type u } in
    let is : x ≡ c.args.self.now = (λ i. let y : SketchLayout = record { lg_k = c.self.inside.lg_config_k; layout = layout_of (sym c.in-List.is i) } in y) ∙ c.self.view_is in
    holds_as t u c.args.coupon (len (insert (coupons_of t) c.args.coupon)) c.container.ensures.same refl ∙ ap (λ y. can_hold_with y.layout c.args.coupon) is ∙ c.requires.overflows

pub returns-in-List-clause-content : goal.returns-in-List-clause-content
returns-in-List-clause-content g c =
    let t : Table = c.container.result.now in
    let u : Table = c.in-List.list in
    let x : SketchLayout = record { lg_k = c.self.inside.lg_config_k; layout = layouts.list c.in-List.hll_type u } in
    let is : x ≡ c.args.self.now = (λ i. let y : SketchLayout = record { lg_k = c.self.inside.lg_config_k; layout = layout_of (sym c.in-List.is i) } in y) ∙ c.self.view_is in
    IfOk-weaker c.promoted_table.result _ _ (λ m made. made
    ∙ content_for_as c.self.inside.lg_config_k t u c.args.coupon (len (insert (coupons_of t) c.args.coupon)) c.container.ensures.same refl
    ∙ ap (λ y. content_with y.lg_k (content_in y.layout) (set_of (c.args.coupon ∷ []))) is) c.promoted_table.ensures.content

pub promoted_table-requires-in-Set-clause-overflows : goal.promoted_table-requires-in-Set-clause-overflows
promoted_table-requires-in-Set-clause-overflows g c =
    let t : Table = c.container-in-Set.result.now in
    let u : Table = c.in-Set.set in
    let x : SketchLayout = record { lg_k = c.self.inside.lg_config_k; layout = layouts.set c.in-Set.hll_type u } in
    let is : x ≡ c.args.self.now = (λ i. let y : SketchLayout = record { lg_k = c.self.inside.lg_config_k; layout = layout_of (sym c.in-Set.is i) } in y) ∙ c.self.view_is in
    holds_as t u c.args.coupon (len (insert (coupons_of t) c.args.coupon)) c.container-in-Set.ensures.same refl ∙ ap (λ y. can_hold_with y.layout c.args.coupon) is ∙ c.requires.overflows

pub returns-in-Set-clause-content : goal.returns-in-Set-clause-content
returns-in-Set-clause-content g c =
    let t : Table = c.container-in-Set.result.now in
    let u : Table = c.in-Set.set in
    let x : SketchLayout = record { lg_k = c.self.inside.lg_config_k; layout = layouts.set c.in-Set.hll_type u } in
    let is : x ≡ c.args.self.now = (λ i. let y : SketchLayout = record { lg_k = c.self.inside.lg_config_k; layout = layout_of (sym c.in-Set.is i) } in y) ∙ c.self.view_is in
    IfOk-weaker c.promoted_table-in-Set.result _ _ (λ m made. made
    ∙ content_for_as c.self.inside.lg_config_k t u c.args.coupon (len (insert (coupons_of t) c.args.coupon)) c.container-in-Set.ensures.same refl
    ∙ ap (λ y. content_with y.lg_k (content_in y.layout) (set_of (c.args.coupon ∷ []))) is) c.promoted_table-in-Set.ensures.content
