-- SPDX-License-Identifier: Apache-2.0
use Rattle.std.proofs.Common.{◌≡◌, ◌+◌, ◌-◌, ℕ, List, length, ap, ◌∙◌, arith}
use Rattle.std.specs.List.{flat_map}
use borrow.Rule.Slice.PartMut.{put_mid}
use Rattle.hll_kernels.specs.Lanes.{groups_of}
use Rattle.hll_kernels.proofs.Parts.{put_mid-whole}
use Rattle.hll_kernels.proofs.SixBitLanes.{length-packed}
use Rattle.hll_kernels.proofs.groups.write_four_groups.Goals as goal

pub returns : goal.returns
returns c =
    let V = c.args.bytes.now in
    let at = c.args.at in
    let Q : List ℕ = flat_map (λ g. g) (groups_of c.args.block.now) in
    let twelve : at + 12 - at ≡ 12 = omega arith in
    let long : length Q ≡ 12 = length-packed 4 c.args.block.now c.told-block c.requires.small in
    (λ i. put_mid at (twelve i) V ((c.put_12.ensures ∙ ap (flat_map (λ g. g)) c.four_groups.ensures) i))
    ∙ put_mid-whole at 12 V Q long c.requires.room
