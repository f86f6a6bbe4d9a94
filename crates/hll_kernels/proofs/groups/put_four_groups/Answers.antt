-- SPDX-License-Identifier: Apache-2.0
use Rattle.std.proofs.Common.{ℕ, List, [], ◌∷◌, get_or, ap, ◌∙◌}
use Rattle.std.specs.Simd.Lanes.{put_chunk}
use Rattle.std.proofs.lemmas.Simd.{pick_l_whole}
use Rattle.hll_kernels.specs.Lanes.{groups_of}
use Rattle.hll_kernels.proofs.SixBitLanes.{put_four, length-groups_of}
use Rattle.hll_kernels.proofs.groups.put_four_groups.Goals as goal

pub returns : goal.returns
returns c =
    let G : List (List ℕ) = c.args.groups.now in
    let B : List ℕ = c.args.block.now in
    let Q : List (List ℕ) = c.four_groups.result in
    put_four c.args.at G (get_or Q 0 []) (get_or Q 1 []) (get_or Q 2 []) (get_or Q 3 []) c.requires.room
    ∙ ap (put_chunk c.args.at G)
    (ap (λ (P : List (List ℕ)). get_or P 0 [] ∷ get_or P 1 [] ∷ get_or P 2 [] ∷ get_or P 3 [] ∷ []) c.four_groups.ensures
    ∙ pick_l_whole [] (groups_of B) 4 (length-groups_of 4 B c.told-block))
