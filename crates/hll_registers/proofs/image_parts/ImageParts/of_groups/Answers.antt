-- SPDX-License-Identifier: Apache-2.0
use Rattle.std.proofs.Common.{◌≡◌, ℕ, List, [], ◌∷◌, ◌++◌, ap, ◌∙◌, append_assoc}
use Rattle.std.specs.List.{flat_map}
use Rattle.hll_kernels.specs.Groups.{registers_in}
use Rattle.hll_kernels.specs.Packed.{zeros}
use Rattle.hll_registers.specs.Payload.{number_bytes, flag_of}
use Rattle.hll_kernels.proofs.Grouping.{field_bytes-registers_in}
use Rattle.hll_registers.proofs.ImageParts.{unchanged}
use Rattle.hll_registers.proofs.image_parts.ImageParts.of_groups.Goals as goal

pub returns : goal.returns
returns c =
    let k : ℕ = c.args.lg_k in
    let G : List (List ℕ) = c.args.groups.now in
    let state = c.args.state in
    let header : List ℕ = 10 ∷ 1 ∷ 7 ∷ k ∷ 0 ∷ flag_of state ∷ 0 ∷ 6 ∷ [] in
    let N : List ℕ = number_bytes state (zeros (registers_in G)) 0 in
    let start_is : flat_map (λ b. b) c.plain_start.result ≡ header ++ N = c.plain_start.ensures.bytes ∙ ap (λ n. header ++ number_bytes state n 0) c.requires.zeros in
    (λ i. start_is i ++ ((unchanged 0 c.as_flattened.result.now ∙ c.as_flattened.ensures.value) i ++ 0 ∷ []))
    ∙ append_assoc header N (flat_map (λ x. x) G ++ 0 ∷ [])
    ∙ ap (λ r. header ++ (N ++ r)) (field_bytes-registers_in G c.requires.groups.bytes)
