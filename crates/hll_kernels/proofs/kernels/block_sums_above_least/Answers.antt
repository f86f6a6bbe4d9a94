-- SPDX-License-Identifier: Apache-2.0
use mathlib.Core.List.{map}
use Rattle.std.proofs.Common.{◌+◌, ◌<◌, ◌≤◌, All, sym, subst, ap, ◌∙◌, arith}
use Rattle.hll_kernels.proofs.Weights.{All-below}
use Rattle.hll_kernels.proofs.WeightParts.{AreSumsOf-shifted, map-differences}
use Rattle.hll_kernels.proofs.kernels.block_sums_above_least.Goals as goal

pub returns-then-are_below : goal.returns-then-are_below
returns-then-are_below c =
    let l = c.min-least.result in
    let R = c.args.block.now in
    let few : l ≤ 16 = omega (arith, c.min-least.ensures) in
    let small = All-below 16 c.differences-above.result (sym c.are_below.ensures ∙ c.if-are_below.true) in
    AreSumsOf-shifted _ l R c.differences-above.result (map-differences l R few c.requires (subst (All (λ d. d < 16)) c.differences-above.ensures small) ∙ sym (ap (map (λ d. l + d)) c.differences-above.ensures)) few small
    c.shifted_sums.ensures.low c.shifted_sums.ensures.high
