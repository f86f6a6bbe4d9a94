-- SPDX-License-Identifier: Apache-2.0
use Rattle.std.proofs.Common.{◌≡◌, ◌*◌, ◌-◌, ◌≤◌, ℕ, List, length, take, drop, sym, ap, ◌∙◌, arith}
use Rattle.std.proofs.lemmas.List.{length-drop}
use Rattle.hll_base.specs.Join.{join}
use Rattle.hll_state.specs.Registers.{values}
use Rattle.hll_state.proofs.Parts.{HaveFour-drop, values-take, values-drop, joined_none, joined_more, joined_all}
use Rattle.hll_state.proofs.Values.{length-values}
use Rattle.hll_state.proofs.registers.max_elements.Goals as goal

pub loop-at-init : goal.loop-at-init
loop-at-init c = joined_none c.args.elements.now (values c.args.others.now)

pub loop-at-preserved : goal.loop-at-preserved
loop-at-preserved c =
    let first : List (List ℕ) = c.args.elements.now in
    let others : List (List ℕ) = c.args.others.now in
    let at : ℕ = c.loop-at.at in
    let end : ℕ = c.min-end.result in
    let now : List (List ℕ) = c.loop-at.elements in
    let le : at ≤ end = omega (arith, c.min-end.ensures, c.loop-at-test.true) in
    let within : end ≤ length now = omega (arith, c.min-end.ensures) in
    let inside : end ≤ length others = omega (arith, within, c.loop-at.auto.elements, c.requires) in
    let part : values (take (end - at) (drop at others)) ≡ take (4 * (end - at)) (drop (4 * at) (values others)) =
    values-take (end - at) (drop at others) (HaveFour-drop at others c.told-others) (omega (arith, length-drop at others, inside))
    ∙ ap (take (4 * (end - at))) (values-drop at others c.told-others (omega (arith, le, inside))) in
    joined_more at end first now c.max_few.new.elements (values others) c.told-elements c.loop-at.auto.elements
    (length-values others c.told-others ∙ ap (λ n. 4 * n) (sym c.requires)) c.loop-at.invariant le within c.max_few.auto.elements
    (c.max_few.ensures ∙ ap (join (values (take (end - at) (drop at now)))) part)

pub returns : goal.returns
returns c =
    let others : List (List ℕ) = c.args.others.now in
    joined_all c.loop-at.at c.args.elements.now c.loop-at.elements (values others) c.told-elements c.loop-at.auto.elements
    (length-values others c.told-others ∙ ap (λ n. 4 * n) (sym c.requires)) c.loop-at.invariant c.loop-at-test.false
