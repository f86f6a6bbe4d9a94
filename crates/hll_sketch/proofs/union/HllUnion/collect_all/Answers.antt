-- SPDX-License-Identifier: Apache-2.0
use Rattle.std.proofs.Common.{All, map, take, ap, subst, sym, ◌∙◌, arith}
use Rattle.std.proofs.lemmas.List.Elements.{All-more}
use Rattle.hll_sketch.specs.Collected.{with_coupons}
use Rattle.hll_sketch.specs.Layout.{sketch_of}
use Rattle.hll_sketch.specs.Merging.{merge, merge_all}
use Rattle.hll_sketch.specs.Union.{gadget_of}
use Rattle.hll_sketch.specs.Value.{IsLegal}
use Rattle.hll_sketch.proofs.Merges.{merged_more}
use Rattle.hll_sketch.proofs.union.HllUnion.collect_all.Goals as goal

pub loop-sketch-preserved : goal.loop-sketch-preserved
loop-sketch-preserved g c =
    let m = c.args.self.now.lg_max_k in
    let gadget = gadget_of c.args.self.now in
    record {
      count = omega (arith, c.loop-sketch.invariant.count);
      merged = c.in_ok-collect.ensures.merged c.if-not-branch.false
          ∙ (λ i. merge m (c.loop-sketch.invariant.merged i) (sketch_of (c.sketch-item.is i)))
          ∙ merged_more m gadget c.args.sketches.now c.loop-sketch.sketch-index c.sketch-item.result c.loop-sketch-test.true;
      legal = All-more (λ x. IsLegal (sketch_of x)) c.args.sketches.now c.loop-sketch.sketch-index c.sketch-item.result c.loop-sketch-test.true c.loop-sketch.invariant.legal
          (subst (λ x. IsLegal (sketch_of x)) c.sketch-item.is c.value_is_legal.ensures);
    }

pub returns-then-not-branch-clause-merged : goal.returns-then-not-branch-clause-merged
returns-then-not-branch-clause-merged g c =
    let gadget = gadget_of c.args.self.now in
    ap (with_coupons gadget) (c.in_ok-collect.ensures.left c.if-not-branch.true) ∙ c.loop-sketch.invariant.merged
    ∙ (λ i. merge_all c.args.self.now.lg_max_k gadget (map sketch_of (take (sym c.loop-sketch.invariant.count i) c.args.sketches.now)))

pub returns-then-not-branch-clause-legal : goal.returns-then-not-branch-clause-legal
returns-then-not-branch-clause-legal g c = subst (λ n. All (λ x. IsLegal (sketch_of x)) (take n c.args.sketches.now)) (sym c.loop-sketch.invariant.count) c.loop-sketch.invariant.legal

pub returns-clause-legal : goal.returns-clause-legal
returns-clause-legal g c = subst (λ n. All (λ x. IsLegal (sketch_of x)) (take n c.args.sketches.now)) (sym c.loop-sketch.invariant.count) c.loop-sketch.invariant.legal
