-- SPDX-License-Identifier: Apache-2.0
use Rattle.std.proofs.Common.{◌≡◌, ◌⊎◌, List, map, inl, inr, subst}
use Rattle.std.specs.Prelude.{◌↔◌, true}
use Rattle.hll_sketch.specs.Agree.{Agree}
use Rattle.hll_sketch.specs.Layout.{sketch_of}
use Rattle.hll_sketch.specs.Value.{Sketch}
use Rattle.hll_text.specs.declared.fault.Fault.TheVariants.{Memory}
use Rattle.hll_text.specs.Step.{step_of}
use Rattle.hll_text.specs.Text.{PlanStep}
use Rattle.hll_merge.specs.Plan.{outcome}
use Rattle.hll_merge.specs.Evaluate.{Incomparable, left_faulty, right_faulty}
use Rattle.hll_merge.proofs.Evaluating.{same_inputs_agree_whole}
use Rattle.hll_merge.proofs.RunLemmas.{refused_with}
use Rattle.hll_merge.proofs.evaluate.compare.Goals as goal

pub returns-in_err-one : goal.returns-in_err-one
returns-in_err-one g c =
    let left : List PlanStep = map step_of c.args.left.now in
    let right : List PlanStep = map step_of c.args.right.now in
    refused_with _ (λ e. (e.fault ≡ Memory) ⊎ Incomparable left right e) c.from_residual.result c.in_err-one.field-0.0 c.from_residual.ensures.1
    (elim c.in_err-one.ensures.outcome [ inl m ↦ inl m | inr f ↦ inr (left_faulty f) ])

pub returns-in_err-two : goal.returns-in_err-two
returns-in_err-two g c =
    let left : List PlanStep = map step_of c.args.left.now in
    let right : List PlanStep = map step_of c.args.right.now in
    let one = c.in_ok-one.ensures.outcome in
    refused_with _ (λ e. (e.fault ≡ Memory) ⊎ Incomparable left right e) c.from_residual-in_err-two.result c.in_err-two.field-0.0 c.from_residual-in_err-two.ensures.1
    (elim c.in_err-two.ensures.outcome [ inl m ↦ inl m | inr f ↦ inr (right_faulty one.plan one.accepted f) ])

pub returns-in-Ok-agree : goal.returns-in-Ok-agree
returns-in-Ok-agree g c =
    let one = c.in_ok-one.ensures.outcome in
    let two = c.in_ok-two.ensures.outcome in
    let is : (c.in-Ok-agree.same ≡ true) ↔ Agree (outcome one.plan) (outcome two.plan) =
    subst (λ (x : Sketch). (c.in-Ok-agree.same ≡ true) ↔ Agree x (outcome two.plan)) one.value
    (subst (λ (y : Sketch). (c.in-Ok-agree.same ≡ true) ↔ Agree (sketch_of c.in_ok-one.one) y) two.value c.in-Ok-agree.ensures.ok) in
    record {
      one = one.plan;
      two = two.plan;
      left_accepted = one.accepted;
      right_accepted = two.accepted;
      left_holds = one.holds;
      right_holds = two.holds;
      is = is;
      same_inputs = λ same. is.1 (same_inputs_agree_whole one.plan two.plan one.holds two.holds same);
    }
