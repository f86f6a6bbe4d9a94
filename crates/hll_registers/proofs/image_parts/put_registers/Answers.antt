-- SPDX-License-Identifier: Apache-2.0
use Rattle.std.proofs.Common.{◌≡◌, ◌++◌, ℕ, List, length, drop, take, refl, sym, ap, ◌∙◌, arith}
use Rattle.std.specs.List.{flat_map}
use Rattle.std.specs.Simd.Lanes.{put_chunk}
use Rattle.std.proofs.lemmas.List.{length-take-le}
use Rattle.hll_registers.proofs.ImageParts.{start_put, put_over, size, unchanged}
use Rattle.hll_registers.proofs.image_parts.put_registers.Goals as goal

pub returns-then-change-gt0 : goal.returns-then-change-gt0
returns-then-change-gt0 c =
    let S : List ℕ = flat_map (λ b. b) c.args.start.now in
    let R = c.args.registers.now in
    let O = c.args.out.now in
    let at = c.args.change.at in
    let C : List ℕ = take c.args.change.count c.args.change.bytes in
    let many : length C ≡ c.args.change.count = length-take-le c.args.change.count c.args.change.bytes (omega (arith, c.requires.three, c.requires.few)) in
    put_over at (length C) S R O C _ _ c.requires.start (omega (arith, many, c.requires.within)) refl
    (start_put S _ R O _ _ c.requires.start c.as_flattened.ensures.value c.put_at.ensures c.put_at-2.ensures)
    c.put_at-then-change-gt0.ensures
    ∙ ap (λ n. (S ++ put_chunk at R C) ++ drop n O) (sym (size S R C at c.requires.start))

pub returns-else-change-gt0 : goal.returns-else-change-gt0
returns-else-change-gt0 c =
    let S : List ℕ = flat_map (λ b. b) c.args.start.now in
    let R = c.args.registers.now in
    let O = c.args.out.now in
    let at = c.args.change.at in
    let B = c.args.change.bytes in
    let none : c.args.change.count ≡ 0 = omega (arith, c.if-change-gt0.false) in
    let same : put_chunk at R (take c.args.change.count B) ≡ R = ap (λ n. put_chunk at R (take n B)) none ∙ unchanged at R in
    start_put S _ R O _ _ c.requires.start c.as_flattened.ensures.value c.put_at.ensures c.put_at-2.ensures
    ∙ (λ i. (S ++ sym same i) ++ drop (length (S ++ sym same i)) O)
    ∙ ap (λ n. (S ++ put_chunk at R (take c.args.change.count B)) ++ drop n O) (sym (size S R (take c.args.change.count B) at c.requires.start))
