-- SPDX-License-Identifier: Apache-2.0
use Rattle.std.proofs.Common.{◌≤◌, All, map, ap, sym, subst, ◌∙◌, refl, arith}
use Rattle.std.proofs.lemmas.List.{take_all}
use Rattle.std.proofs.lemmas.List.Elements.{All-get_or}
use Rattle.hll_sketch.specs.Layout.{SketchLayout, sketch_of}
use Rattle.hll_sketch.specs.Merging.{merge, merge_all, empty_union}
use Rattle.hll_sketch.specs.Value.{Sketch, in_registers}
use Rattle.hll_sketch.specs.Union.{IsGadget}
use Rattle.hll_sketch.proofs.Gadgets.{gadget_merge}
use Rattle.hll_sketch.proofs.InPlace.{merge-first, in_registers-merge, lg_k-merge_within}
use Rattle.hll_sketch.proofs.Merges.{merged_more}
use Rattle.hll_sketch.proofs.merge.union_in_place.Goals as goal
use Rattle.hll_sketch.proofs.merge.union_in_place.Goals.{then-not-is_gadget_of_registers-via-then-not-is_gadget_of_registers, then-not-is_gadget_of_registers-via-else-not-is_gadget_of_registers+then-not-are_at_least}

pub loop-sketch-init : goal.loop-sketch-init
loop-sketch-init g c =
    let gadget = c.is_gadget_of_registers.ensures.gadget c.if-not-is_gadget_of_registers.false in
    let inside = c.is_gadget_of_registers.ensures.registers c.if-not-is_gadget_of_registers.false in
    record {
      merged = sym (merge-first c.args.lg_max_k (sketch_of c.args.first.now) gadget inside c.value_is_legal.ensures);
      gadget = gadget;
      inside = inside;
      lg_k = refl;
    }

pub merge_in_place-requires-clause-gadget : goal.merge_in_place-requires-clause-gadget
merge_in_place-requires-clause-gadget g c =
    let is = c.loop-sketch.invariant.gadget in
    record { width = is.width; lg_k = omega arith; coupons = λ _. refl; registers = is.registers }

pub merge_in_place-requires-clause-within : goal.merge_in_place-requires-clause-within
merge_in_place-requires-clause-within g c =
    let other : c.args.first.now.lg_k ≤ c.sketch-item.result.lg_k = subst (λ (x : SketchLayout). c.args.first.now.lg_k ≤ x.lg_k) (sym c.sketch-item.is)
    (All-get_or (λ (x : SketchLayout). c.args.first.now.lg_k ≤ x.lg_k) c.args.others.now c.loop-sketch.sketch-index c.sketch-item.result c.loop-sketch-test.true
    (subst (λ k. All (λ (x : SketchLayout). k ≤ x.lg_k) c.args.others.now) c.lg_config_k.ensures.lg_k (c.are_at_least.ensures.all c.if-not-are_at_least.false))) in
    omega (arith, other, c.loop-sketch.invariant.lg_k)

pub loop-sketch-preserved : goal.loop-sketch-preserved
loop-sketch-preserved g c =
    let m = c.args.lg_max_k in
    let first = sketch_of c.loop-sketch.first in
    let x = sketch_of c.sketch-item.result in
    let gadget = c.loop-sketch.invariant.gadget in
    let inside = c.loop-sketch.invariant.inside in
    let made = c.merge_in_place.ensures m in
    let other : c.args.first.now.lg_k ≤ c.sketch-item.result.lg_k = subst (λ (x : SketchLayout). c.args.first.now.lg_k ≤ x.lg_k) (sym c.sketch-item.is)
    (All-get_or (λ (x : SketchLayout). c.args.first.now.lg_k ≤ x.lg_k) c.args.others.now c.loop-sketch.sketch-index c.sketch-item.result c.loop-sketch-test.true
    (subst (λ k. All (λ (x : SketchLayout). k ≤ x.lg_k) c.args.others.now) c.lg_config_k.ensures.lg_k (c.are_at_least.ensures.all c.if-not-are_at_least.false))) in
    record {
      merged = made ∙ (λ i. merge m (c.loop-sketch.invariant.merged i) (sketch_of (c.sketch-item.is i)))
          ∙ merged_more m (merge m (empty_union m) (sketch_of c.args.first.now)) c.args.others.now c.loop-sketch.sketch-index c.sketch-item.result c.loop-sketch-test.true;
      gadget = subst (IsGadget m) (sym made) (gadget_merge m first x gadget c.value_is_legal-in-loop-sketch.ensures c.value_is_legal-in-loop-sketch-2.ensures);
      inside = ap (λ (y : Sketch). in_registers y.content) made ∙ in_registers-merge m first x inside (gadget.registers inside);
      lg_k = ap (λ (y : Sketch). y.lg_k) made ∙ lg_k-merge_within m first x (omega (arith, other, c.loop-sketch.invariant.lg_k)) ∙ c.loop-sketch.invariant.lg_k;
    }

pub returns-then-not-is_gadget_of_registers-clause-cannot : goal.returns-then-not-is_gadget_of_registers-clause-cannot
returns-then-not-is_gadget_of_registers-clause-cannot g c _ can = elim c.then-not-is_gadget_of_registers.branch [
  | then-not-is_gadget_of_registers-via-then-not-is_gadget_of_registers w ↦ c.is_gadget_of_registers.ensures.other w.if-not-is_gadget_of_registers.true can.gadget can.inside
  | then-not-is_gadget_of_registers-via-else-not-is_gadget_of_registers+then-not-are_at_least w ↦ w.are_at_least.ensures.some w.if-not-are_at_least.true
      (subst (λ k. All (λ (x : SketchLayout). k ≤ x.lg_k) c.args.others.now) (sym w.lg_config_k.ensures.lg_k) can.within)
]

pub returns-clause-can : goal.returns-clause-can
returns-clause-can g c _ = record {
  gadget = c.is_gadget_of_registers.ensures.gadget c.if-not-is_gadget_of_registers.false;
  inside = c.is_gadget_of_registers.ensures.registers c.if-not-is_gadget_of_registers.false;
  within = subst (λ k. All (λ (x : SketchLayout). k ≤ x.lg_k) c.args.others.now) c.lg_config_k.ensures.lg_k (c.are_at_least.ensures.all c.if-not-are_at_least.false);
}

pub returns-clause-merged : goal.returns-clause-merged
returns-clause-merged g c _ =
    let m = c.args.lg_max_k in
    c.loop-sketch.invariant.merged ∙ ap (λ xs. merge_all m (merge m (empty_union m) (sketch_of c.args.first.now)) (map sketch_of xs)) (take_all c.loop-sketch.sketch-index c.args.others.now c.loop-sketch-test.false)
