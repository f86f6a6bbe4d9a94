-- SPDX-License-Identifier: Apache-2.0
use Rattle.std.proofs.Common.{◌≤◌, All, subst, sym, arith}
use Rattle.std.proofs.lemmas.List.{take_all}
use Rattle.std.proofs.lemmas.List.Elements.{All-more, All-get_or}
use Rattle.hll_sketch.specs.Layout.{SketchLayout}
use Rattle.hll_sketch.proofs.merge.are_at_least.Goals as goal

pub loop-sketch-preserved : goal.loop-sketch-preserved
loop-sketch-preserved g c =
    let P = λ (x : SketchLayout). c.args.lg_k ≤ x.lg_k in
    All-more P c.args.sketches.now c.loop-sketch.sketch-index c.sketch-item.result c.loop-sketch-test.true c.loop-sketch.invariant (subst P c.sketch-item.is (let least : c.args.lg_k ≤ c.sketch-item.result.lg_k = omega (arith, c.if-lg_config_k-lg_k.false, c.lg_config_k.ensures.lg_k) in least))

pub returns-then-lg_config_k-lg_k-clause-some : goal.returns-then-lg_config_k-lg_k-clause-some
returns-then-lg_config_k-lg_k-clause-some g c _ all =
    let P = λ (x : SketchLayout). c.args.lg_k ≤ x.lg_k in
    let here : c.args.lg_k ≤ c.sketch-item.result.lg_k = subst P (sym c.sketch-item.is) (All-get_or P c.args.sketches.now c.loop-sketch.sketch-index c.sketch-item.result c.loop-sketch-test.true all) in
    absurd (omega (arith, here, c.if-lg_config_k-lg_k.true, c.lg_config_k.ensures.lg_k))

pub returns-clause-all : goal.returns-clause-all
returns-clause-all g c _ = subst (All (λ (x : SketchLayout). c.args.lg_k ≤ x.lg_k)) (take_all c.loop-sketch.sketch-index c.args.sketches.now c.loop-sketch-test.false) c.loop-sketch.invariant
