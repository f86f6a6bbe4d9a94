-- SPDX-License-Identifier: Apache-2.0
use Rattle.std.proofs.Common.{◌≡◌, ℕ, List, [], ◌∷◌, ◌++◌, ◌+◌, ap, ◌∙◌, append_assoc}
use Rattle.std.specs.List.{flat_map}
use Rattle.std.proofs.Math.Nat.{zero-add}
use Rattle.hll_coupons.specs.Coupons.{mode_byte}
use Rattle.hll_kernels.specs.Groups.{registers_in}
use Rattle.hll_kernels.specs.Packed.{zeros}
use Rattle.hll_registers.specs.Payload.{number_bytes, flag_of}
use Rattle.hll_registers.specs.declared.preamble.HllHeader.{HllHeader}
use Rattle.hll_kernels.proofs.Grouping.{field_bytes-registers_in}
use Rattle.hll_registers.proofs.plain_images.six_bit_image.Goals as goal

pub returns-clause-ok : goal.returns-clause-ok
returns-clause-ok g c =
    let k : ℕ = c.args.lg_k in
    let G : List (List ℕ) = c.args.groups.now in
    let state = c.args.state in
    let header : List ℕ = 10 ∷ 1 ∷ 7 ∷ k ∷ 0 ∷ flag_of state ∷ 0 ∷ 6 ∷ [] in
    let N : List ℕ = number_bytes state (zeros (registers_in G)) 0 in
    let B : List ℕ = flat_map (λ x. x) G in
    let start : c.in_ok-bytes.bytes ≡ header ++ N =
    c.in_ok-bytes.ensures.ok
    ∙ (λ i. let h : HllHeader = c.plain-header.ensures i in 10 ∷ 1 ∷ 7 ∷ h.lg_config_k ∷ 0 ∷ (h.flags + flag_of state) ∷ h.minimum ∷ mode_byte 2 h.hll_type ∷ number_bytes state (c.requires.zeros i) 0)
    ∙ ap (λ flags. 10 ∷ 1 ∷ 7 ∷ k ∷ 0 ∷ flags ∷ 0 ∷ 6 ∷ N) (zero-add (flag_of state)) in
    let third : c.write.new.self ≡ (header ++ N) ++ B = c.in_ok-write.ensures.ok ∙ (λ i. start i ++ c.as_flattened-packed.ensures.value i) in
    let all : c.into_bytes.result.items ≡ ((header ++ N) ++ B) ++ 0 ∷ [] = c.into_bytes.ensures ∙ c.in_ok-write-2.ensures.ok ∙ ap (λ b. b ++ 0 ∷ []) third in
    let parts : ((header ++ N) ++ B) ++ 0 ∷ [] ≡ header ++ (N ++ (B ++ 0 ∷ [])) = append_assoc (header ++ N) B (0 ∷ []) ∙ append_assoc header N (B ++ 0 ∷ []) in
    all ∙ parts ∙ ap (λ r. header ++ (N ++ r)) (field_bytes-registers_in G c.requires.groups.bytes)
