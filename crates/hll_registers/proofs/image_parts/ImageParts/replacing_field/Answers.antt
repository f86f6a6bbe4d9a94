-- SPDX-License-Identifier: Apache-2.0
use Rattle.std.proofs.Common.{◌≡◌, ℕ, List, [], ◌∷◌, ◌++◌, ◌*◌, ◌/◌, ◌%◌, ◌<◌, length, ap, ◌∙◌, arith, append_assoc}
use Rattle.std.specs.List.{flat_map}
use Rattle.std.specs.Simd.Lanes.{put_chunk}
use Rattle.std.proofs.Math.ListN.{set}
use Rattle.std.proofs.lemmas.List.{take_all}
use Rattle.std.proofs.lemmas.List.Elements.{All-set}
use Rattle.hll_kernels.specs.Groups.{registers_in, IsGroup}
use Rattle.hll_kernels.specs.Packed.{zeros, field_bytes}
use Rattle.hll_registers.specs.Payload.{number_bytes, flag_of}
use Rattle.hll_kernels.proofs.Grouping.{field_bytes-registers_in, registers_in-set}
use Rattle.hll_registers.proofs.ImageParts.{replaced_group}
use Rattle.hll_registers.proofs.image_parts.ImageParts.replacing_field.Goals as goal

pub returns : goal.returns
returns c =
    let k : ℕ = c.args.lg_k in
    let G : List (List ℕ) = c.args.groups.now in
    let g : ℕ = c.args.slot / 4 in
    let h : List ℕ = c.pack_group.result in
    let Q : List (List ℕ) = set G g h in
    let R : List ℕ = set (registers_in G) c.args.slot c.args.value in
    let state = c.args.state in
    let header : List ℕ = 10 ∷ 1 ∷ 7 ∷ k ∷ 0 ∷ flag_of state ∷ 0 ∷ 6 ∷ [] in
    let N : List ℕ = number_bytes state (zeros R) 0 in
    let inside : g < length G = omega (arith, c.requires.slot) in
    let packed : put_chunk (g * 3) c.as_flattened.result.now h ≡ flat_map (λ x. x) Q = ap (λ P. put_chunk (g * 3) P h) c.as_flattened.ensures.value ∙ replaced_group g G h c.requires.groups.bytes c.pack_group.ensures.group inside in
    let same : registers_in Q ≡ R = registers_in-set G c.args.slot c.args.value h [] c.requires.slot (c.pack_group.ensures.fields ∙ ap (λ F. set F (c.args.slot % 4) c.args.value) c.unpack_group-registers.ensures.fields) in
    let start_is : flat_map (λ b. b) c.plain_start.result ≡ header ++ N = c.plain_start.ensures.bytes ∙ ap (λ n. header ++ number_bytes state n 0) c.requires.zeros in
    (λ i. start_is i ++ ((ap (put_chunk (g * 3) c.as_flattened.result.now) (take_all 3 h (omega (arith, c.pack_group.ensures.group.three))) ∙ packed) i ++ 0 ∷ []))
    ∙ append_assoc header N (flat_map (λ x. x) Q ++ 0 ∷ [])
    ∙ ap (λ r. header ++ (N ++ r)) (field_bytes-registers_in Q (All-set IsGroup G g h c.pack_group.ensures.group c.requires.groups.bytes) ∙ ap field_bytes same)
