-- SPDX-License-Identifier: Apache-2.0
use Rattle.std.proofs.Common.{◌≡◌, ℕ, List, [], ◌∷◌, ◌++◌, ap, ◌∙◌}
use Rattle.std.specs.List.{flat_map}
use Rattle.std.proofs.Math.ListN.{set}
use Rattle.std.proofs.lemmas.List.{append-nil}
use Rattle.hll_kernels.specs.Packed.{zeros}
use Rattle.hll_registers.specs.Payload.{number_bytes, flag_of}
use Rattle.hll_registers.proofs.ImageParts.{one_byte}
use Rattle.hll_registers.proofs.image_parts.ImageParts.replacing_byte.Goals as goal

pub returns : goal.returns
returns c =
    let k : ℕ = c.args.lg_k in
    let R : List ℕ = set c.args.registers.now c.args.slot c.args.value in
    let state = c.args.state in
    let header : List ℕ = 10 ∷ 1 ∷ 7 ∷ k ∷ 0 ∷ flag_of state ∷ 0 ∷ 10 ∷ [] in
    let start_is : flat_map (λ b. b) c.plain_start.result ≡ header ++ number_bytes state (zeros R) 0 = c.plain_start.ensures.bytes ∙ ap (λ n. header ++ number_bytes state n 0) c.requires.zeros in
    λ i. start_is i ++ (ap (λ Q. Q ++ []) (one_byte c.args.slot c.args.registers.now c.args.value c.requires.slot) ∙ append-nil R) i
