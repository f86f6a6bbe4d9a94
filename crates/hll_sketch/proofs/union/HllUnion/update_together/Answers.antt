-- SPDX-License-Identifier: Apache-2.0
use Rattle.std.proofs.Common.{All, map, subst, ◌∙◌, take, drop}
use Rattle.std.proofs.lemmas.List.{take-append-drop}
use Rattle.std.proofs.lemmas.List.Elements.{All-append}
use Rattle.hll_sketch.specs.Layout.{sketch_of}
use Rattle.hll_sketch.specs.Merging.{merge_all}
use Rattle.hll_sketch.specs.Union.{gadget_of}
use Rattle.hll_sketch.specs.Value.{IsLegal}
use Rattle.hll_sketch.proofs.Collected.{merged_rest}
use Rattle.hll_sketch.proofs.union.HllUnion.update_together.Goals as goal

pub returns-clause-merged : goal.returns-clause-merged
returns-clause-merged g c =
    let m = c.args.self.now.lg_max_k in
    (λ i. merge_all m ((c.in_ok-update_with_batch.ensures.ok ∙ c.in_ok-count.ensures.merged) i) (map sketch_of (c.split_at.ensures.back i)))
    ∙ merged_rest m (gadget_of c.args.self.now) c.args.sketches.now c.in_ok-count.count

pub returns-clause-legal : goal.returns-clause-legal
returns-clause-legal g c = λ legal.
    subst (All (λ x. IsLegal (sketch_of x))) (take-append-drop c.in_ok-count.count c.args.sketches.now)
    (All-append (λ x. IsLegal (sketch_of x)) (take c.in_ok-count.count c.args.sketches.now) (drop c.in_ok-count.count c.args.sketches.now) c.in_ok-count.ensures.legal
    (subst (All (λ x. IsLegal (sketch_of x))) c.split_at.ensures.back legal))
