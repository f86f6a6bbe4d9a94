-- SPDX-License-Identifier: Apache-2.0
use Rattle.std.proofs.Common.{◌≡◌, ◌&&◌, nat_eq, false, sym, ap, ◌∙◌}
use Rattle.hll_coupons.specs.Table.{coupons_of}
use Rattle.hll_sketch.specs.Layout.{SketchLayout, content_in, sketch_of}
use Rattle.hll_sketch.specs.Value.{Sketch, is_empty, pairs_in}
use Rattle.std.proofs.lemmas.Result.{on_ok_weaker, on_err_weaker}
use Rattle.hll_base.proofs.Errors.{OnErr-of}
use Rattle.hll_sketch.proofs.Merges.{coupons_added, needs_whole, needs_larger, other_size, other_empty}
use Rattle.hll_sketch.proofs.sketch.HllSketch.merge_coupons.Given.{Over}
use Rattle.hll_sketch.proofs.sketch.HllSketch.merge_coupons.Goals as goal
use Rattle.hll_sketch.proofs.sketch.HllSketch.merge_coupons.Goals.{else-is_empty-via-then-is_empty+else-self-sketch, else-is_empty-via-else-is_empty}

pub returns-in_err-self-inside-clause-needed : goal.returns-in_err-self-inside-clause-needed
returns-in_err-self-inside-clause-needed g c =
    let same = sym (ap (λ (y : SketchLayout). y.lg_k) c.self.view_is) ∙ c.if-self-sketch.true ∙ ap (λ (y : SketchLayout). y.lg_k) c.sketch.view_is in
    OnErr-of c.from_residual.result _
    (needs_whole c.args.self.now c.args.sketch.now.lg_k (content_in c.args.sketch.now.layout) _ _ c.requires.table (sym c.is_empty.ensures ∙ c.if-is_empty.true) same c.requires.registers)

-- the gadget has coupons, or has another lg_k
other : (g : Over) (c : goal.After-add_table g) → (is_empty (sketch_of c.args.self.now) && nat_eq c.args.self.now.lg_k c.args.sketch.now.lg_k) ≡ false
other g c =
    let x : Sketch = sketch_of c.args.self.now in
    elim c.else-is_empty.branch [
      | else-is_empty-via-then-is_empty+else-self-sketch w ↦ other_size (is_empty x) c.args.self.now.lg_k c.args.sketch.now.lg_k (λ e. w.if-self-sketch.false (ap (λ (y : SketchLayout). y.lg_k) c.self.view_is ∙ e ∙ sym (ap (λ (y : SketchLayout). y.lg_k) c.sketch.view_is)))
      | else-is_empty-via-else-is_empty w ↦ other_empty (is_empty x) c.args.self.now.lg_k c.args.sketch.now.lg_k (sym c.is_empty.ensures ∙ w.if-is_empty.false)
    ]

pub returns-else-is_empty-clause-needed : goal.returns-else-is_empty-clause-needed
returns-else-is_empty-clause-needed g c =
    on_err_weaker c.add_table.result (λ full. needs_larger c.args.self.now c.args.sketch.now.lg_k (content_in c.args.sketch.now.layout) _ _ c.requires.table c.requires.width full) c.add_table.ensures.needed

pub returns-else-is_empty-clause-ok : goal.returns-else-is_empty-clause-ok
returns-else-is_empty-clause-ok g c =
    on_ok_weaker c.add_table.result
    (λ added. coupons_added (sketch_of c.args.self.now) (sketch_of c.args.sketch.now) _ (coupons_of c.args.table.now) (other g c) (ap pairs_in c.requires.table) added) c.add_table.ensures.ok
