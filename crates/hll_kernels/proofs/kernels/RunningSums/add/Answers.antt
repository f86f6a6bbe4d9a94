-- SPDX-License-Identifier: Apache-2.0
use Rattle.std.proofs.Common.{◌≡◌, ◌+◌, ◌*◌, ◌%◌, refl, sym, ap, ◌∙◌, arith}
use Rattle.std.specs.Simd.Lanes.{sum_l}
use Rattle.hll_kernels.specs.Lanes.{window_weight, window_units}
use Rattle.hll_kernels.proofs.Weights.{All-below, sums_by_bytes, lower_bytes-le, window_units-le}
use Rattle.hll_kernels.proofs.WeightParts.{AreRunningSums-windows, upper_fits, lower_fits, others_fit}
use Rattle.hll_kernels.proofs.kernels.RunningSums.add.Goals as goal
use mathlib.Core.List.{map}

pub halves_added-upper-requires-clause-small : goal.halves_added-upper-requires-clause-small
halves_added-upper-requires-clause-small c =
    let B = c.args.values in
    omega (arith, sums_by_bytes B c.byte_sums.result _ (c.byte_sums.ensures.sum ∙ ap sum_l c.upper_bytes.ensures) refl, window_units-le B, c.fits-values.0)

pub halves_added-lower-requires-clause-small : goal.halves_added-lower-requires-clause-small
halves_added-lower-requires-clause-small c =
    let B = c.args.values in
    omega (arith, c.byte_sums-then-are_below.ensures.sum, ap sum_l c.lower_bytes.ensures, lower_bytes-le B, c.fits-values.0)

pub lanes_added-self-requires-clause-small : goal.lanes_added-self-requires-clause-small
lanes_added-self-requires-clause-small c =
    let B = c.args.values in
    let units : 256 * sum_l c.halves_added-upper.result + sum_l (map (λ v. window_weight v % 256) B) ≡ window_units B =
    sums_by_bytes B _ _ (c.halves_added-upper.ensures.sum ∙ c.byte_sums.ensures.sum ∙ ap sum_l c.upper_bytes.ensures) refl in
    upper_fits _ c.requires.few.0 B c.requires.few.1 (All-below 16 B (sym c.are_below.ensures ∙ c.if-are_below.true)) _ _ units (omega (arith, c.fits-values.0, c.requires.few.2))

pub lanes_added-self-requires-then-are_below-clause-small : goal.lanes_added-self-requires-then-are_below-clause-small
lanes_added-self-requires-then-are_below-clause-small c =
    let B = c.args.values in
    let lower : sum_l c.halves_added-lower.result ≡ sum_l (map (λ v. window_weight v % 256) B) = c.halves_added-lower.ensures.sum ∙ c.byte_sums-then-are_below.ensures.sum ∙ ap sum_l c.lower_bytes.ensures in
    let units : 256 * sum_l c.halves_added-upper.result + sum_l c.halves_added-lower.result ≡ window_units B =
    sums_by_bytes B _ _ (c.halves_added-upper.ensures.sum ∙ c.byte_sums.ensures.sum ∙ ap sum_l c.upper_bytes.ensures) lower in
    lower_fits _ c.requires.few.0 B c.requires.few.1 (All-below 16 B (sym c.are_below.ensures ∙ c.if-are_below.true)) _ _ units (omega (arith, c.fits-values.0, c.requires.few.2)) (omega (arith, lower, lower_bytes-le B))

pub plus-self-requires-clause-low : goal.plus-self-requires-clause-low
plus-self-requires-clause-low c = (others_fit _ c.requires.few.0 c.args.values c.requires.few.1 _ c.block_sums_above_least-sums.ensures (omega (arith, c.fits-values.0, c.requires.few.2))).0

pub plus-self-requires-clause-high : goal.plus-self-requires-clause-high
plus-self-requires-clause-high c = (others_fit _ c.requires.few.0 c.args.values c.requires.few.1 _ c.block_sums_above_least-sums.ensures (omega (arith, c.fits-values.0, c.requires.few.2))).1

pub returns-then-are_below : goal.returns-then-are_below
returns-then-are_below c R are =
    let B = c.args.values in
    let lower : sum_l c.halves_added-lower.result ≡ sum_l (map (λ v. window_weight v % 256) B) = c.halves_added-lower.ensures.sum ∙ c.byte_sums-then-are_below.ensures.sum ∙ ap sum_l c.lower_bytes.ensures in
    let units : 256 * sum_l c.halves_added-upper.result + sum_l c.halves_added-lower.result ≡ window_units B =
    sums_by_bytes B _ _ (c.halves_added-upper.ensures.sum ∙ c.byte_sums.ensures.sum ∙ ap sum_l c.upper_bytes.ensures) lower in
    AreRunningSums-windows _ R B are (All-below 16 B (sym c.are_below.ensures ∙ c.if-are_below.true)) _ _ units _ (omega (arith, lower, lower_bytes-le B)) c.lanes_added-self.ensures.sum
    c.lanes_added-self-then-are_below.ensures.sum refl (c.lanes_added-self.ensures.lanes ∙ are.upper_lanes) (c.lanes_added-self-then-are_below.ensures.lanes ∙ are.lower_lanes)
