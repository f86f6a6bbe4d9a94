-- SPDX-License-Identifier: Apache-2.0
use Rattle.std.proofs.Common.{◌≡◌, ℕ, ◌+◌, ◌*◌, ◌-◌, ◌≤◌, ◌++◌, List, length, take, drop, refl, sym, ap, ◌∙◌, arith}
use Rattle.std.specs.Prelude.{◌&&◌, nat_le}
use Rattle.std.specs.List.{list_all}
use Rattle.std.proofs.Math.Seq.{take-add}
use Rattle.std.proofs.lemmas.List.{length-drop, length-take-le, take_all}
use Rattle.std.proofs.lemmas.List.Folds.{list_all-append}
use Rattle.hll_base.specs.Join.{join}
use Rattle.hll_state.specs.Registers.{values}
use Rattle.hll_state.proofs.Parts.{joined_none, joined_more, joined_all}
use Rattle.hll_state.proofs.GreatestBytes.{within_join, within_zeros}
use Rattle.hll_state.proofs.registers.max_with_bytes.Goals as goal

pub loop-at-init : goal.loop-at-init
loop-at-init c = (joined_none c.args.elements.now c.args.bytes.now, omega arith, omega arith, λ bound. sym (within_zeros bound 64), refl)

pub loop-at-preserved : goal.loop-at-preserved
loop-at-preserved c =
    let first : List (List ℕ) = c.args.elements.now in
    let now : List (List ℕ) = c.loop-at.elements in
    let at : ℕ = c.loop-at.at in
    let Q : List ℕ = c.args.bytes.now in
    let room : at + 16 ≤ length first = omega (arith, c.loop-at-test.true, c.loop-at.auto.elements, c.requires.sixteens, c.loop-at.invariant.2) in
    let size : length Q ≡ 4 * length first = omega (arith, c.requires.size) in
    let count : 4 * at + 64 - 4 * at ≡ 64 = omega arith in
    let four : 4 * (at + 16 - at) ≡ 64 = omega arith in
    let block : List ℕ = take (4 * at + 64 - 4 * at) (drop (4 * at) Q) in
    let part : block ≡ take (4 * (at + 16 - at)) (drop (4 * at) Q) = ap (λ n. take n (drop (4 * at) Q)) (count ∙ sym four) in
    let long : length block ≡ 64 = ap (λ n. length (take n (drop (4 * at) Q))) count ∙ length-take-le 64 (drop (4 * at) Q) (omega (arith, length-drop (4 * at) Q, room, size)) in
    let more : take (4 * (at + 16)) Q ≡ take (4 * at) Q ++ block =
    ap (λ n. take n Q) (let sum : 4 * (at + 16) ≡ 4 * at + 64 = omega arith in sum) ∙ take-add (4 * at) 64 Q ∙ ap (λ n. take (4 * at) Q ++ take n (drop (4 * at) Q)) (sym count) in (
      joined_more at (at + 16) first now c.max_with_block.new.elements Q c.told-elements c.loop-at.auto.elements size c.loop-at.invariant.0
          (omega arith) (omega (arith, room, c.loop-at.auto.elements)) c.max_with_block.auto.elements
          (c.max_with_block.ensures ∙ ap (join (values (take (at + 16 - at) (drop at now)))) (c.block_of-block.ensures ∙ part)),
      room,
      omega (arith, c.loop-at.invariant.2),
      λ bound.
          ap (list_all (λ b. nat_le b bound)) more ∙ list_all-append (λ b. nat_le b bound) (take (4 * at) Q) block
          ∙ ap (λ p. p && list_all (λ b. nat_le b bound) block) (c.loop-at.invariant.3 bound)
          ∙ sym (ap (list_all (λ b. nat_le b bound)) (c.greater_lanes-greatest.ensures.is ∙ ap (join c.loop-at.greatest) c.block_of-block.ensures) ∙ within_join bound c.loop-at.greatest block (c.loop-at.invariant.4 ∙ sym long)),
      c.greater_lanes-greatest.ensures.len,
    )

pub returns-clause-joined : goal.returns-clause-joined
returns-clause-joined c = joined_all c.loop-at.at c.args.elements.now c.loop-at.elements c.args.bytes.now c.told-elements c.loop-at.auto.elements (omega (arith, c.requires.size)) c.loop-at.invariant.0 c.loop-at-test.false

pub returns-clause-greatest : goal.returns-clause-greatest
returns-clause-greatest c bound =
    let Q : List ℕ = c.args.bytes.now in
    sym (ap (list_all (λ b. nat_le b bound)) (take_all (4 * c.loop-at.at) Q (omega (arith, c.loop-at-test.false, c.loop-at.auto.elements, c.requires.size)))) ∙ c.loop-at.invariant.3 bound ∙ c.greatest_of.ensures bound
