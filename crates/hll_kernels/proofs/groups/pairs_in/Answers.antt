-- SPDX-License-Identifier: Apache-2.0
use Rattle.std.proofs.Common.{◌≡◌, ◌∙◌, ◌++◌, ℕ, List, length, sym, ap, arith}
use Rattle.std.specs.List.{range_with_len}
use Rattle.std.specs.Simd.Lanes.{chunk, pick_l}
use Rattle.std.proofs.lemmas.List.{append_assoc, length-append}
use Rattle.std.proofs.lemmas.Simd.{pick_l_whole}
use Rattle.hll_kernels.specs.Lanes.{fields_of_pairs}
use Rattle.hll_kernels.specs.Packed.{fields}
use Rattle.hll_kernels.proofs.SixBitLanes.{fields-parts, fields_of_pairs-append}
use Rattle.hll_kernels.proofs.groups.pairs_in.Goals as goal

pub returns : goal.returns
returns c =
    let B : List ℕ = c.args.block.now in
    let F : ℕ → List ℕ = λ k. fields (chunk k 12 B) in
    let P0 : List ℕ = c.pairs_at.result in
    let P1 : List ℕ = c.pairs_at-2.result in
    let P2 : List ℕ = c.pairs_at-3.result in
    let P3 : List ℕ = c.pairs_at_end.result in
    let low : c.joined-low.result ≡ P0 ++ P1 = c.joined-low.ensures in
    let high : c.joined-high.result ≡ P2 ++ P3 = c.joined-high.ensures in
    let l0 : length P0 ≡ 16 = c.pairs_at.ensures.lanes in
    let l2 : length P2 ≡ 16 = c.pairs_at-3.ensures.lanes in
    let long : length (P0 ++ P1) ≡ 32 = omega (arith, length-append P0 P1, l0, c.pairs_at-2.ensures.lanes) in
    let rest : length (P2 ++ P3) ≡ 32 = omega (arith, length-append P2 P3, l2, c.pairs_at_end.ensures.lanes) in
    ap fields_of_pairs ((λ i. pick_l 0 (low i ++ high i) (range_with_len 0 64)) ∙ pick_l_whole 0 ((P0 ++ P1) ++ (P2 ++ P3)) 64 (omega (arith, length-append (P0 ++ P1) (P2 ++ P3), long, rest)))
    ∙ fields_of_pairs-append 8 (P0 ++ P1) (P2 ++ P3) long
    ∙ (λ i. fields_of_pairs-append 4 P0 P1 l0 i ++ fields_of_pairs-append 4 P2 P3 l2 i)
    ∙ (λ i. (c.pairs_at.ensures.fields i ++ c.pairs_at-2.ensures.fields i) ++ (c.pairs_at-3.ensures.fields i ++ c.pairs_at_end.ensures.fields i))
    ∙ sym (append_assoc (F 0 ++ F 12) (F 24) (F 36))
    ∙ fields-parts B c.told-block
