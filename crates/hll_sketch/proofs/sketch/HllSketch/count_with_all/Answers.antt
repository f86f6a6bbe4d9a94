-- SPDX-License-Identifier: Apache-2.0
use Rattle.std.proofs.Common.{◌≡◌, sym, ap, ◌∙◌, inl, inr}
use Rattle.std.specs.FinSet.{empty, len, union}
use Rattle.hll_coupons.specs.Pair.{Pairs}
use Rattle.hll_coupons.specs.Table.{coupons_of}
use Rattle.hll_coupons.proofs.Unions.{union-empty}
use Rattle.hll_sketch.specs.Layout.{SketchLayout, layout_of}
use Rattle.hll_sketch.specs.Union.{coupons_kept}
use Rattle.hll_sketch.proofs.sketch.HllSketch.count_with_all.Goals as goal

pub returns-in-Array4 : goal.returns-in-Array4
returns-in-Array4 g c =
    let T : Pairs = coupons_of c.args.table.now in
    let none : coupons_kept (layout_of c.self.inside.mode) ≡ empty = elim c.in-Array4.is [
      | inl four ↦ ap (λ m. coupons_kept (layout_of m)) four.1
      | inr more ↦ elim more [
        | inl six ↦ ap (λ m. coupons_kept (layout_of m)) six.1
        | inr eight ↦ ap (λ m. coupons_kept (layout_of m)) eight.1
      ]
    ] in
    c.len.ensures.count ∙ sym c.len.ensures.table.distinct ∙ ap len (sym (union-empty T)) ∙ ap (λ P. len (union P T)) (sym none)
    ∙ ap (λ (y : SketchLayout). len (union (coupons_kept y.layout) T)) c.self.view_is
