-- SPDX-License-Identifier: Apache-2.0
use Rattle.std.proofs.Common.{◌≡◌, ◌+◌, ◌*◌, ◌-◌, ◌≤◌, ℕ, List, length, take, drop, ap, ◌∙◌, arith}
use Rattle.std.proofs.lemmas.List.{length-drop, length-take-le}
use Rattle.hll_base.specs.Join.{join}
use Rattle.hll_state.specs.Registers.{values}
use Rattle.hll_state.proofs.Parts.{joined_none, joined_more, joined_all, registers_part}
use Rattle.hll_state.proofs.registers.max_from.Goals as goal

pub loop-at-init : goal.loop-at-init
loop-at-init g c =
    joined_none c.args.elements.now (take (4 * length c.args.elements.now) (drop c.args.first (g.R.Registers.stored c.args.src.now).registers))

pub loop-at-preserved : goal.loop-at-preserved
loop-at-preserved g c =
    let R : List ℕ = (g.R.Registers.stored c.args.src.now).registers in
    let first : List (List ℕ) = c.args.elements.now in
    let from : ℕ = c.args.first in
    let n : ℕ = length first in
    let at : ℕ = c.loop-at.at in
    let end : ℕ = c.min-end.result in
    let now : List (List ℕ) = c.loop-at.elements in
    let le : at ≤ end = omega (arith, c.min-end.ensures, c.loop-at-test.true) in
    let within : end ≤ length now = omega (arith, c.min-end.ensures) in
    let size : length (take (4 * n) (drop from R)) ≡ 4 * n = length-take-le (4 * n) (drop from R) (omega (arith, length-drop from R, c.requires.within, c.requires.legal.registers.size)) in
    let few : length (take (end - at) (drop at now)) ≡ end - at = length-take-le (end - at) (drop at now) (omega (arith, length-drop at now, within)) in
    joined_more at end first now c.max_part.new.elements (take (4 * n) (drop from R)) c.told-elements c.loop-at.auto.elements size c.loop-at.invariant le within c.max_part.auto.elements
    (c.max_part.ensures ∙ ap (λ m. join (values (take (end - at) (drop at now))) (take (4 * m) (drop (from + 4 * at) R))) few
    ∙ ap (join (values (take (end - at) (drop at now)))) (registers_part from at end n R le (omega (arith, within, c.loop-at.auto.elements))))

pub returns : goal.returns
returns g c =
    let R : List ℕ = (g.R.Registers.stored c.args.src.now).registers in
    let n : ℕ = length c.args.elements.now in
    let size : length (take (4 * n) (drop c.args.first R)) ≡ 4 * n = length-take-le (4 * n) (drop c.args.first R) (omega (arith, length-drop c.args.first R, c.requires.within, c.requires.legal.registers.size)) in
    joined_all c.loop-at.at c.args.elements.now c.loop-at.elements (take (4 * n) (drop c.args.first R)) c.told-elements c.loop-at.auto.elements size c.loop-at.invariant c.loop-at-test.false
