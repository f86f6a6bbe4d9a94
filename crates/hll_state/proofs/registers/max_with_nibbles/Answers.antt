-- SPDX-License-Identifier: Apache-2.0
use Rattle.std.proofs.Common.{◌≡◌, ◌*◌, ◌+◌, ◌-◌, ◌≤◌, ℕ, List, length, take, drop, sym, ap, ◌∙◌, arith}
use Rattle.hll_base.specs.Join.{join}
use Rattle.hll_kernels.specs.Lanes.{nibble_values}
use Rattle.hll_kernels.proofs.FourBitLanes.{length-nibble_values}
use Rattle.hll_state.specs.Registers.{values}
use Rattle.hll_state.proofs.NibbleParts.{values-block}
use Rattle.hll_state.proofs.Parts.{joined_none, joined_more, joined_all}
use Rattle.hll_state.proofs.registers.max_with_nibbles.Goals as goal

pub loop-at-init : goal.loop-at-init
loop-at-init c = (joined_none c.args.elements.now (nibble_values c.args.minimum c.args.nibbles.now), omega arith, omega arith)

pub loop-at-preserved : goal.loop-at-preserved
loop-at-preserved c =
    let first : List (List ℕ) = c.args.elements.now in
    let now : List (List ℕ) = c.loop-at.elements in
    let at : ℕ = c.loop-at.at in
    let m : ℕ = c.args.minimum in
    let B : List ℕ = c.args.nibbles.now in
    let Q : List ℕ = nibble_values m B in
    let room : at + 16 ≤ length first = omega (arith, c.loop-at-test.true, c.loop-at.auto.elements, c.requires.sixteens, c.loop-at.invariant.2) in
    let size : length Q ≡ 4 * length first = omega (arith, length-nibble_values m B, c.requires.size) in
    let count : 2 * at + 32 - 2 * at ≡ 32 = omega arith in
    let four : at + 16 - at ≡ 16 = omega arith in
    let from : 2 * (2 * at) ≡ 4 * at = omega arith in
    let part : nibble_values m (take (2 * at + 32 - 2 * at) (drop (2 * at) B)) ≡ take (4 * (at + 16 - at)) (drop (4 * at) Q) =
    ap (λ n. nibble_values m (take n (drop (2 * at) B))) count
    ∙ values-block m (2 * at) 32 B (omega (arith, room, c.requires.size))
    ∙ (λ i. take 64 (drop (from i) Q)) ∙ ap (λ n. take (4 * n) (drop (4 * at) Q)) (sym four) in (
      joined_more at (at + 16) first now c.max_with_32_bytes.new.elements Q c.told-elements c.loop-at.auto.elements size c.loop-at.invariant.0
          (omega arith) (omega (arith, room, c.loop-at.auto.elements)) c.max_with_32_bytes.auto.elements
          (c.max_with_32_bytes.ensures ∙ ap (join (values (take (at + 16 - at) (drop at now)))) part),
      room,
      omega (arith, c.loop-at.invariant.2),
    )

pub returns : goal.returns
returns c =
    let B : List ℕ = c.args.nibbles.now in
    joined_all c.loop-at.at c.args.elements.now c.loop-at.elements (nibble_values c.args.minimum B) c.told-elements c.loop-at.auto.elements
    (omega (arith, length-nibble_values c.args.minimum B, c.requires.size)) c.loop-at.invariant.0 c.loop-at-test.false
