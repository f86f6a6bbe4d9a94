-- SPDX-License-Identifier: Apache-2.0
use Rattle.std.proofs.Common.{◌≡◌, ◌*◌, ◌^◌, ℕ, List, length, ap, ◌∙◌, arith}
use Rattle.hll_registers.proofs.FourBitReading.{small_minimum}
use Rattle.hll_state.specs.Registers.{values}
use Rattle.hll_state.proofs.NibbleParts.{parts_agree, length-with_nibbles, whole_blocks, with_entries, without_exceptions}
use Rattle.hll_state.proofs.Values.{four_each, length-values}
use Rattle.hll_state.proofs.registers.max_with_nibble_parts.Goals as goal

pub max_with_nibbles-requires-clause-size : goal.max_with_nibbles-requires-clause-size
max_with_nibbles-requires-clause-size c = omega (arith, c.requires.parts.1.size, c.requires.size, four_each c.args.lg_k c.requires.least)

pub max_with_nibbles-requires-clause-sixteens : goal.max_with_nibbles-requires-clause-sixteens
max_with_nibbles-requires-clause-sixteens c = whole_blocks (length c.args.elements.now) c.args.lg_k c.requires.size c.requires.many

pub max_with_nibbles-requires-clause-small : goal.max_with_nibbles-requires-clause-small
max_with_nibbles-requires-clause-small c = omega (arith, small_minimum (parts_agree c.requires.parts.1))

pub returns-in-Some : goal.returns-in-Some
returns-in-Some c R parts =
    let V : List ℕ = values c.args.elements.now in
    let W : List ℕ = values c.max_with_nibbles.new.elements in
    let X : List ℕ = values c.raise_entries.new.elements in
    let n : length V ≡ 4 * length c.args.elements.now = length-values c.args.elements.now c.told-elements in
    let size : length V ≡ 2 ^ c.args.lg_k = n ∙ ap (λ m. 4 * m) c.requires.size ∙ four_each c.args.lg_k c.requires.least in
    let same : length W ≡ length V = length-with_nibbles parts V W size c.max_with_nibbles.ensures in
    with_entries parts c.in-Some.entries c.in-Some.is V W X size (omega (arith, n)) c.max_with_nibbles.ensures same c.raise_entries.ensures.len
    (λ t map is s l. c.raise_entries.ensures.raised t map is s (omega (arith, l, same, n, c.max_with_nibbles.auto.elements)))

pub returns-in_default : goal.returns-in_default
returns-in_default c R parts =
    let V : List ℕ = values c.args.elements.now in
    let n : length V ≡ 4 * length c.args.elements.now = length-values c.args.elements.now c.told-elements in
    let size : length V ≡ 2 ^ c.args.lg_k = n ∙ ap (λ m. 4 * m) c.requires.size ∙ four_each c.args.lg_k c.requires.least in
    let W : List ℕ = values c.max_with_nibbles.new.elements in
    without_exceptions parts c.in_default.is V W size (omega (arith, n)) c.max_with_nibbles.ensures (length-with_nibbles parts V W size c.max_with_nibbles.ensures)
