-- SPDX-License-Identifier: Apache-2.0
use Rattle.std.proofs.Common.{◌≡◌, ◌⊎◌, ℕ, ◌+◌, List, [], ◌∷◌, ◌++◌, map, take, drop, sym, subst, ap, ◌∙◌}
use Rattle.std.proofs.lemmas.List.{take_all}
use Rattle.hll_text.specs.declared.fault.Fault.TheVariants.{Memory}
use Rattle.hll_text.specs.Step.{step_of, IsInRange}
use Rattle.hll_text.specs.Text.{PlanStep}
use Rattle.hll_merge.specs.Accepting.{itself, FaultsAtLine}
use Rattle.hll_merge.specs.Evaluate.{RunsSteps}
use Rattle.hll_merge.proofs.Evaluating.{map-next, map-parts, runs_none, runs_more, stops_at}
use Rattle.hll_merge.proofs.evaluate.carry_steps.Goals as goal

pub loop-step-init : goal.loop-step-init
loop-step-init g c = runs_none c.in-Ok.stack c.in-Ok.ensures

pub carry_out-requires : goal.carry_out-requires
carry_out-requires g c = subst (λ s. IsInRange (step_of s)) (sym c.step-item.is) (c.requires c.loop-step.step-index c.step-item.result c.loop-step-test.true)

pub returns-in-Err-carry_out : goal.returns-in-Err-carry_out
returns-in-Err-carry_out g c =
    let all : List PlanStep = map step_of c.args.steps.now in
    let i : ℕ = c.loop-step.step-index in
    subst (λ e. (e.fault ≡ Memory) ⊎ FaultsAtLine itself all e) (sym c.at-in-Err-carry_out.ensures)
    (stops_at (map step_of (take i c.args.steps.now)) (step_of c.step-item.result) (map step_of (drop (i + 1) c.args.steps.now)) all c.loop-step.stack c.loop-step.number
    c.saturating_add-number.result c.in-Err-carry_out.fault
    (map-parts step_of c.args.steps.now i c.step-item.result c.loop-step-test.true
    ∙ ap (λ s. map step_of (take i c.args.steps.now) ++ step_of s ∷ map step_of (drop (i + 1) c.args.steps.now)) (sym c.step-item.is))
    c.loop-step.invariant c.in-Err-carry_out.ensures.err c.saturating_add-number.ensures)

pub loop-step-preserved : goal.loop-step-preserved
loop-step-preserved g c =
    let i : ℕ = c.loop-step.step-index in
    let in_range : IsInRange (step_of c.step-item.result) = subst (λ s. IsInRange (step_of s)) (sym c.step-item.is) (c.requires i c.step-item.result c.loop-step-test.true) in
    subst (λ all. RunsSteps all c.carry_out.new.self c.saturating_add-number.result)
    (sym (map-next step_of c.args.steps.now i c.step-item.result c.loop-step-test.true ∙ ap (λ s. map step_of (take i c.args.steps.now) ++ step_of s ∷ []) (sym c.step-item.is)))
    (runs_more (map step_of (take i c.args.steps.now)) (step_of c.step-item.result) c.loop-step.stack c.carry_out.new.self c.loop-step.number c.saturating_add-number.result
    c.loop-step.invariant (in_range, c.carry_out.ensures.bytes) c.in_default.ensures.ok c.saturating_add-number.ensures)

pub returns : goal.returns
returns g c = subst (λ steps. RunsSteps (map step_of steps) c.loop-step.stack c.loop-step.number) (take_all c.loop-step.step-index c.args.steps.now c.loop-step-test.false) c.loop-step.invariant
