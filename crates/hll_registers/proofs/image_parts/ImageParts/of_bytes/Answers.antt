-- SPDX-License-Identifier: Apache-2.0
use Rattle.std.proofs.Common.{◌≡◌, ℕ, List, [], ◌∷◌, ◌++◌, ap, ◌∙◌}
use Rattle.std.specs.List.{flat_map}
use Rattle.std.proofs.lemmas.List.{append-nil}
use Rattle.hll_kernels.specs.Packed.{zeros}
use Rattle.hll_registers.specs.Payload.{number_bytes, flag_of}
use Rattle.hll_registers.proofs.ImageParts.{unchanged}
use Rattle.hll_registers.proofs.image_parts.ImageParts.of_bytes.Goals as goal

pub returns : goal.returns
returns c =
    let k : ℕ = c.args.lg_k in
    let R : List ℕ = c.args.registers.now in
    let state = c.args.state in
    let header : List ℕ = 10 ∷ 1 ∷ 7 ∷ k ∷ 0 ∷ flag_of state ∷ 0 ∷ 10 ∷ [] in
    let start_is : flat_map (λ b. b) c.plain_start.result ≡ header ++ number_bytes state (zeros R) 0 = c.plain_start.ensures.bytes ∙ ap (λ n. header ++ number_bytes state n 0) c.requires.zeros in
    λ i. start_is i ++ (ap (λ Q. Q ++ []) (unchanged 0 R) ∙ append-nil R) i
