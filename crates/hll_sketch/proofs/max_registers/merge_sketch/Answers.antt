-- SPDX-License-Identifier: Apache-2.0
use Rattle.std.proofs.Common.{◌≡◌, nat_eq, sym, ap, ◌∙◌}
use Rattle.std.specs.FinSet.{len}
use Rattle.hll_base.specs.Join.{join}
use Rattle.hll_coupons.specs.Fold.{fold_to}
use Rattle.hll_coupons.specs.Table.{Table, coupons_of}
use Rattle.hll_sketch.specs.Layout.{SketchLayout, layout_of, content_in, sketch_of}
use Rattle.hll_sketch.specs.Value.{coupons, is_empty, pairs_in}
use Rattle.hll_sketch.proofs.Emptiness.{zeros-empty}
use Rattle.hll_sketch.proofs.MaxBytes.{max_of_table}
use Rattle.hll_sketch.proofs.max_registers.merge_sketch.Goals as goal

pub max_registers-requires-clause-zeros : goal.max_registers-requires-clause-zeros
max_registers-requires-clause-zeros g c =
    c.is_empty.ensures ∙ ap (λ (y : SketchLayout). is_empty (sketch_of y)) (sym c.sketch.view_is) ∙ ap (λ m. nat_eq (len (pairs_in (content_in (layout_of m)))) 0) c.in-Array4.is
    ∙ sym (zeros-empty c.in-Array4.array.stored.registers)

pub max_registers-requires-in-Array6-clause-zeros : goal.max_registers-requires-in-Array6-clause-zeros
max_registers-requires-in-Array6-clause-zeros g c =
    c.is_empty-in-Array6.ensures ∙ ap (λ (y : SketchLayout). is_empty (sketch_of y)) (sym c.sketch.view_is) ∙ ap (λ m. nat_eq (len (pairs_in (content_in (layout_of m)))) 0) c.in-Array6.is
    ∙ sym (zeros-empty c.in-Array6.array.registers)

pub max_registers-requires-in-Array8-clause-zeros : goal.max_registers-requires-in-Array8-clause-zeros
max_registers-requires-in-Array8-clause-zeros g c =
    c.is_empty-in-Array8.ensures ∙ ap (λ (y : SketchLayout). is_empty (sketch_of y)) (sym c.sketch.view_is) ∙ ap (λ m. nat_eq (len (pairs_in (content_in (layout_of m)))) 0) c.in-Array8.is
    ∙ sym (zeros-empty c.in-Array8.array.registers)

pub returns-in-List : goal.returns-in-List
returns-in-List g c =
    let holds : (sketch_of c.args.sketch.now).content ≡ coupons (coupons_of c.in-List.list) c.in-List.list.lg_size =
    ap (λ (y : SketchLayout). content_in y.layout) (sym c.sketch.view_is) ∙ ap (λ m. content_in (layout_of m)) c.in-List.is in
    max_of_table c.args.lg_k (sketch_of c.args.sketch.now) c.args.registers.now c.max_table.new.registers (coupons_of c.in-List.list) c.in-List.list.lg_size holds
    (c.max_table.ensures ∙ ap (λ (t : Table). join c.args.registers.now (fold_to (coupons_of t) c.args.lg_k)) c.container.ensures.same)

pub returns-in-Set : goal.returns-in-Set
returns-in-Set g c =
    let holds : (sketch_of c.args.sketch.now).content ≡ coupons (coupons_of c.in-Set.set) c.in-Set.set.lg_size =
    ap (λ (y : SketchLayout). content_in y.layout) (sym c.sketch.view_is) ∙ ap (λ m. content_in (layout_of m)) c.in-Set.is in
    max_of_table c.args.lg_k (sketch_of c.args.sketch.now) c.args.registers.now c.max_table-in-Set.new.registers (coupons_of c.in-Set.set) c.in-Set.set.lg_size holds
    (c.max_table-in-Set.ensures ∙ ap (λ (t : Table). join c.args.registers.now (fold_to (coupons_of t) c.args.lg_k)) c.container-in-Set.ensures.same)
