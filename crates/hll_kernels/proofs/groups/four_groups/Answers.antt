-- SPDX-License-Identifier: Apache-2.0
use Rattle.std.proofs.Common.{◌≡◌, ◌/◌, ◌%◌, ℕ, List, [], ◌∷◌, get_or, ap, ◌∙◌}
use Rattle.std.proofs.lemmas.Simd.{pick_l_whole}
use Rattle.hll_kernels.specs.Lanes.{numbers_of}
use Rattle.hll_kernels.proofs.SixBitLanes.{groups_of-numbers, length-numbers_of}
use Rattle.hll_kernels.proofs.groups.four_groups.Goals as goal
use mathlib.Core.List.{map}

abbrev group_in : ℕ → List ℕ
group_in n = (n % 256) ∷ (n / 256 % 256) ∷ (n / 65536 % 256) ∷ []

-- the groups of four lanes
groups_of_lanes : (N ws : List ℕ) → ws ≡ N → (get_or N 0 0 ∷ get_or N 1 0 ∷ get_or N 2 0 ∷ get_or N 3 0 ∷ []) ≡ N →
    (group_in (get_or ws 0 0) ∷ group_in (get_or ws 1 0) ∷ group_in (get_or ws 2 0) ∷ group_in (get_or ws 3 0) ∷ []) ≡ map group_in N
groups_of_lanes N ws is all = ap (λ S. group_in (get_or S 0 0) ∷ group_in (get_or S 1 0) ∷ group_in (get_or S 2 0) ∷ group_in (get_or S 3 0) ∷ []) is ∙ ap (map group_in) all

pub returns : goal.returns
returns c =
    let B = c.args.block.now in
    let N = numbers_of B in
    let ws = c.numbers_in.result in
    (λ i. c.group_of.ensures i ∷ c.group_of-2.ensures i ∷ c.group_of-3.ensures i ∷ c.group_of-4.ensures i ∷ [])
    ∙ groups_of_lanes N ws c.numbers_in.ensures (pick_l_whole 0 N 4 (length-numbers_of 4 B c.told-block))
    ∙ groups_of-numbers B c.told-block c.requires
