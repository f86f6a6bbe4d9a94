-- SPDX-License-Identifier: Apache-2.0
use Rattle.std.proofs.Common.{◌≡◌, ◌⊎◌, List, [], ◌∙◌, map, inl, inr, refl, sym, subst}
use Rattle.hll_text.specs.declared.fault.Fault.TheVariants.{Memory}
use Rattle.hll_text.specs.Step.{step_of}
use Rattle.hll_text.specs.Text.{PlanStep}
use Rattle.hll_merge.specs.Accepting.{IsFirstFaultOfSteps}
use Rattle.hll_merge.proofs.Evaluating.{runs_none, outcome_of_steps, ends_at, no_items}
use Rattle.hll_merge.proofs.RunLemmas.{refused_with}
use Rattle.hll_merge.proofs.evaluate.evaluate.Goals as goal

pub returns-in_err-stack-clause-outcome : goal.returns-in_err-stack-clause-outcome
returns-in_err-stack-clause-outcome g c =
    refused_with _ (λ e. (e.fault ≡ Memory) ⊎ IsFirstFaultOfSteps (map step_of c.args.steps.now) e) c.from_residual.result c.in_err-stack.field-0.0 c.from_residual.ensures.1
    (elim c.in_err-stack.ensures [ inl m ↦ inl m | inr f ↦ inr (inl f) ])

pub returns-in-Some-clause-outcome : goal.returns-in-Some-clause-outcome
returns-in-Some-clause-outcome g c = outcome_of_steps (map step_of c.args.steps.now) c.in_ok-stack.stack c.in-Some.sketch c.in_ok-stack.number c.in_ok-stack.ensures c.in-Some.ensures.one

pub returns-in-None-clause-outcome : goal.returns-in-None-clause-outcome
returns-in-None-clause-outcome g c =
    let all : List PlanStep = map step_of c.args.steps.now in
    subst (λ e. (e.fault ≡ Memory) ⊎ IsFirstFaultOfSteps all e) (sym c.at-in-None.ensures)
    (inr (ends_at all c.in_ok-stack.stack c.in_ok-stack.number _ c.in_ok-stack.ensures c.in-None.ensures.other refl refl))

pub returns-then-is_empty-clause-outcome : goal.returns-then-is_empty-clause-outcome
returns-then-is_empty-clause-outcome g c =
    let none : c.args.steps.now ≡ [] = no_items _ (sym c.is_empty.ensures ∙ c.if-is_empty.true) in
    subst (λ steps. (c.at.result.fault ≡ Memory) ⊎ IsFirstFaultOfSteps (map step_of steps) c.at.result) (sym none)
    (subst (λ e. (e.fault ≡ Memory) ⊎ IsFirstFaultOfSteps [] e) (sym c.at.ensures) (inr (ends_at [] [] 0 _ (runs_none [] refl) (λ one. cc) refl refl)))
