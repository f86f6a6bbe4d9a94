-- SPDX-License-Identifier: Apache-2.0
use Rattle.std.proofs.Common.{◌+◌, ℕ, List, ◌++◌, length, drop, take, ap, ◌∙◌, arith}
use Rattle.std.specs.List.{flat_map}
use Rattle.std.specs.Simd.Lanes.{put_chunk}
use Rattle.std.proofs.lemmas.Simd.{length-put_chunk}
use Rattle.hll_registers.proofs.ImageParts.{put_with_end, length-parts, size}
use Rattle.hll_registers.proofs.image_parts.ImageParts.put.Goals as goal

pub put_registers-requires : goal.put_registers-requires
put_registers-requires c =
    let x = c.self.inside in
    let C : List ℕ = take x.change.count x.change.bytes in
    let S : List ℕ = flat_map (λ b. b) x.start in
    let all = length-parts S (put_chunk x.change.at x.registers.now C) x.end.now c.self.invariant.0 in
    record {
      start = c.self.invariant.0;
      three = c.self.invariant.4;
      few = c.self.invariant.2;
      within = c.self.invariant.3;
      room = omega (arith, c.requires, all, length-put_chunk x.change.at x.registers.now C, ap length c.self.view_is);
    }

pub returns-then-not-is_empty : goal.returns-then-not-is_empty
returns-then-not-is_empty c =
    let x = c.self.inside in
    let S : List ℕ = flat_map (λ b. b) x.start in
    let C : List ℕ = take x.change.count x.change.bytes in
    let e = size S x.registers.now C x.change.at c.self.invariant.0 in
    put_with_end (40 + length x.registers.now) S (put_chunk x.change.at x.registers.now C) x.end.now c.args.out.now _ _ c.args.self.now e
    (c.put_registers.ensures ∙ ap (λ n. (S ++ put_chunk x.change.at x.registers.now C) ++ drop n c.args.out.now) e) c.put_at.ensures c.self.view_is
