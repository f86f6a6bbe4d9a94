-- SPDX-License-Identifier: Apache-2.0
use Rattle.std.proofs.Common.{◌≡◌, ◌+◌, List, take, drop, length, ap, sym, subst, ◌∙◌, arith}
use Rattle.std.proofs.lemmas.List.{take_at}
use Rattle.hll_sketch.specs.Layout.{SketchLayout}
use Rattle.hll_merge.specs.Stack.{MergesTail}
use Rattle.hll_merge.proofs.StackLemmas.{merged_in_first}
use Rattle.hll_merge.proofs.stack.Stack.merge_in_place.Goals as goal

pub returns-then-not-merge_tail-clause-unchanged : goal.returns-then-not-merge_tail-clause-unchanged
returns-then-not-merge_tail-clause-unchanged g c _ =
    let new : List SketchLayout = c.merge_tail.new.sketches in
    let size : length new ≡ c.self.inside.sketches.len = omega (arith, c.merge_tail.ensures.len, c.deref_mut.ensures.len) in
    take_at new (drop (length new) c.self.inside.sketches.items) c.self.inside.sketches.len size ∙ c.merge_tail.ensures.unchanged c.if-not-merge_tail.true ∙ c.deref_mut.ensures.value ∙ c.self.view_is

pub returns-clause-union_of_batch : goal.returns-clause-union_of_batch
returns-clause-union_of_batch g c _ =
    let old : List SketchLayout = c.deref_mut.result.now in
    let new : List SketchLayout = c.merge_tail.new.sketches in
    let items : old ≡ c.args.self.now = c.deref_mut.ensures.value ∙ c.self.view_is in
    let made = c.merge_tail.ensures.union_of_batch c.if-not-merge_tail.false in
    let size : length new ≡ c.self.inside.sketches.len = omega (arith, c.merge_tail.ensures.len, c.deref_mut.ensures.len) in
    let whole = take_at new (drop (length new) c.self.inside.sketches.items) c.self.inside.sketches.len size in
    subst (λ xs. MergesTail c.args.at c.args.lg_max_k c.args.hll_type xs c.truncate.new.self.items) items
    (subst (MergesTail c.args.at c.args.lg_max_k c.args.hll_type old) (sym (c.truncate.ensures.items ∙ ap (take (c.args.at + 1)) whole))
    (merged_in_first old new c.args.at c.args.lg_max_k c.args.hll_type made.0 c.in-Hll8.is made.1 made.2))
