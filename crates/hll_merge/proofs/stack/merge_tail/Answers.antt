-- SPDX-License-Identifier: Apache-2.0
use Rattle.std.proofs.Common.{◌+◌, [], ◌∷◌, ◌++◌, List, take, ap, sym, ◌∙◌, arith}
use Rattle.std.proofs.lemmas.List.{length-append}
use Rattle.std.proofs.Math.Seq.{take-append-add}
use Rattle.hll_sketch.specs.Layout.{SketchLayout, sketch_of}
use Rattle.hll_sketch.specs.Merging.{merge_all, empty_union}
use Rattle.std.specs.Prelude.{map}
use Rattle.hll_merge.proofs.stack.merge_tail.Goals as goal

pub returns-clause-union_of_batch : goal.returns-clause-union_of_batch
returns-clause-union_of_batch g c done =
    let front : List SketchLayout = c.split_at_mut-last.result.0.now in
    let last = c.split_at_mut-last.ensures in
    let rest = c.in-Some.ensures.cases in
    let x : SketchLayout = c.union_in_place.new.first in (
      x,
      (λ i. take (sym last.front_len i + 1) (front ++ x ∷ c.in-Some.others.now)) ∙ take-append-add front (x ∷ c.in-Some.others.now) 1 ∙ ap (λ xs. xs ++ x ∷ []) last.front,
      c.union_in_place.ensures.merged done ∙ ap (λ xs. merge_all c.args.lg_max_k (empty_union c.args.lg_max_k) (map sketch_of xs)) (sym rest.0 ∙ last.back),
    )

pub returns-clause-unchanged : goal.returns-clause-unchanged
returns-clause-unchanged g c none =
    ap (λ x. c.split_at_mut-last.result.0.now ++ x ∷ c.in-Some.others.now) (c.union_in_place.ensures.unchanged none)
    ∙ ap (λ xs. c.split_at_mut-last.result.0.now ++ xs) (sym c.in-Some.ensures.cases.0) ∙ sym c.split_at_mut-last.ensures.value

pub returns-clause-len : goal.returns-clause-len
returns-clause-len g c =
    omega (arith, length-append c.split_at_mut-last.result.0.now (c.union_in_place.new.first ∷ c.in-Some.others.now), c.split_at_mut-last.ensures.front_len, c.split_at_mut-last.ensures.back_len, c.in-Some.ensures.cases.1)
