-- SPDX-License-Identifier: Apache-2.0
use Rattle.std.proofs.Common.{refl, sym, ◌∙◌}
use Rattle.std.proofs.lemmas.Bool.{cond-true, cond-false}
use Rattle.std.proofs.lemmas.Result.{on_ok_weaker}
use Rattle.hll_sketch.specs.Layout.{sketch_of}
use Rattle.hll_sketch.specs.Merging.{merge_content}
use Rattle.hll_sketch.specs.Union.{gadget_of}
use Rattle.hll_sketch.specs.Value.{is_empty}
use Rattle.hll_sketch.proofs.Joined.{joined_more}
use Rattle.hll_sketch.proofs.union.HllUnion.update.Goals as goal

pub returns-then-is_empty-clause-canonical : goal.returns-then-is_empty-clause-canonical
returns-then-is_empty-clause-canonical g c =
    let u = c.args.self.now in
    let x = sketch_of c.args.sketch.now in
    λ xs join canonical. joined_more u u x xs refl
    (sym (cond-true (is_empty x) (gadget_of u) (merge_content u.lg_max_k (gadget_of u) x x.content) (sym c.is_empty.ensures ∙ c.if-is_empty.true))) c.value_is_legal.ensures join canonical

pub returns-clause-canonical : goal.returns-clause-canonical
returns-clause-canonical g c =
    let u = c.args.self.now in
    let x = sketch_of c.args.sketch.now in
    on_ok_weaker c.merge_content.result
    (λ is xs join canonical. joined_more u c.merge_content.new.self x xs c.merge_content.ensures.bound
    (is ∙ sym (cond-false (is_empty x) (gadget_of u) (merge_content u.lg_max_k (gadget_of u) x x.content) (sym c.is_empty.ensures ∙ c.if-is_empty.false))) c.value_is_legal.ensures join canonical)
    c.merge_content.ensures.ok
