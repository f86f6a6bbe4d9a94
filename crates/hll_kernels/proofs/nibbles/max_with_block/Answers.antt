-- SPDX-License-Identifier: Apache-2.0
use Rattle.std.proofs.Common.{◌≡◌, ◌+◌, ℕ, List, length, take, drop, sym, ap, ◌∙◌, arith}
use Rattle.std.proofs.lemmas.List.{length-take-le, length-drop, take-take, take_all, take-append-drop}
use Rattle.hll_kernels.specs.Lanes.{max_at, nibble_values}
use Rattle.hll_kernels.proofs.FourBitLanes.{length-nibble_values, nibble_values-append}
use Rattle.hll_kernels.proofs.Parts.{max_more}
use Rattle.hll_kernels.proofs.nibbles.max_with_block.Goals as goal

pub returns : goal.returns
returns c =
    let at : ℕ = c.args.at in
    let V : List ℕ = c.args.values.now in
    let m : ℕ = c.args.minimum in
    let B : List ℕ = c.args.block.now in
    let P : List ℕ = nibble_values m (take 16 B) in
    let Q : List ℕ = nibble_values m (drop 16 B) in
    let rest : take 16 (take 16 (drop 16 B)) ≡ drop 16 B = take-take 16 16 (drop 16 B) (omega arith) ∙ take_all 16 (drop 16 B) (omega (arith, length-drop 16 B, c.told-block)) in
    let first : c.max_with_half.new.values ≡ max_at at V P = c.max_with_half.ensures in
    let second : c.max_with_half-2.new.values ≡ max_at (at + 32) c.max_with_half.new.values Q = c.max_with_half-2.ensures ∙ ap (λ S. max_at (at + 32) c.max_with_half.new.values (nibble_values m S)) rest in
    let long : length P ≡ 32 = omega (arith, length-nibble_values m (take 16 B), length-take-le 16 B (omega (arith, c.told-block))) in
    second ∙ ap (λ S. max_at (at + 32) S Q) first ∙ max_more at (at + 32) V P Q (omega (arith, long)) (omega (arith, c.requires.room))
    ∙ ap (max_at at V) (sym (nibble_values-append m (take 16 B) (drop 16 B))) ∙ ap (λ S. max_at at V (nibble_values m S)) (take-append-drop 16 B)
