-- SPDX-License-Identifier: Apache-2.0
use Rattle.std.proofs.Common.{ℕ, List, length, take, ap, arith}
use Rattle.std.specs.List.{flat_map}
use Rattle.std.specs.Simd.Lanes.{put_chunk}
use Rattle.std.proofs.lemmas.Simd.{length-put_chunk}
use Rattle.hll_registers.proofs.ImageParts.{length-parts}
use Rattle.hll_registers.proofs.image_parts.ImageParts.len.Goals as goal

pub returns : goal.returns
returns c =
    let x = c.self.inside in
    let C : List ℕ = take x.change.count x.change.bytes in
    omega (arith, length-parts (flat_map (λ b. b) x.start) (put_chunk x.change.at x.registers.now C) x.end.now c.self.invariant.0, length-put_chunk x.change.at x.registers.now C, ap length c.self.view_is)
