-- SPDX-License-Identifier: Apache-2.0
use Rattle.std.proofs.Common.{◌≡◌, ◌-◌, List, take, drop, length, inl, inr, map, ap, ◌∙◌, arith}
use Rattle.std.proofs.lemmas.List.{take_all, length-drop}
use Rattle.std.proofs.lemmas.Result.{on_ok_weaker}
use Rattle.hll_base.proofs.Errors.{IfErr-passed}
use Rattle.hll_sketch.specs.Layout.{SketchLayout, sketch_of}
use Rattle.hll_sketch.specs.Merging.{merge_all, empty_union}
use Rattle.hll_sketch.specs.Value.{Sketch}
use Rattle.hll_text.specs.Step.{fault_of}
use Rattle.hll_text.specs.declared.fault.Fault.TheVariants.{Memory}
use Rattle.hll_merge.proofs.stack.Stack.merge_aside.Goals as goal

pub returns-in_err-union-clause-err : goal.returns-in_err-union-clause-err
returns-in_err-union-clause-err g c =
    IfErr-passed (λ e. e ≡ Memory) c.from_residual-in_err-union.result (fault_of c.in_err-union.field-0.0) c.from_residual-in_err-union.ensures.1
    (elim c.in_err-union.ensures.err [ inl outside ↦ absurd (c.in_err-union.ensures.outside outside c.requires.bound) | inr m ↦ ap fault_of m ])

pub returns-clause-ok : goal.returns-clause-ok
returns-clause-ok g c =
    let slice : List SketchLayout = c.deref.result.now in
    let at = c.args.at in
    let is : slice ≡ c.args.self.now = c.deref.ensures.value ∙ c.self.view_is in
    let all : take (length slice - at) (drop at slice) ≡ drop at c.args.self.now = take_all (length slice - at) (drop at slice) (omega (arith, length-drop at slice)) ∙ ap (drop at) is in
    on_ok_weaker c.replace_from.result (λ gives. record {
      made = c.in_ok-sketch.sketch;
      value = c.in_ok-sketch.ensures.ok ∙ ap (λ (z : Sketch). record z { width = c.args.hll_type }) (c.in_ok-union.ensures.merged ∙ ap (λ ys. merge_all c.args.lg_max_k (empty_union c.args.lg_max_k) (map sketch_of ys)) all);
      gives = gives;
    }) c.replace_from.ensures.ok
