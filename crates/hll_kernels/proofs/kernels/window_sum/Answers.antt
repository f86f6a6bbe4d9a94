-- SPDX-License-Identifier: Apache-2.0
use Rattle.std.proofs.Common.{◌≡◌, ◌+◌, ◌*◌, ◌≤◌, ◌∙◌, ap, arith}
use Rattle.std.specs.Simd.Lanes.{sum_l}
use Rattle.hll_kernels.specs.Lanes.{window_units}
use Rattle.hll_kernels.proofs.Weights.{sums_by_bytes, joined_lanes, window_units-le}
use Rattle.hll_kernels.proofs.kernels.window_sum.Goals as goal

pub lane_sum-requires : goal.lane_sum-requires
lane_sum-requires c =
    let both : 256 * sum_l c.byte_sums-upper.result + sum_l c.byte_sums-lower.result ≡ window_units c.args.values =
    sums_by_bytes c.args.values _ _ (c.byte_sums-upper.ensures.sum ∙ ap sum_l c.upper_bytes.ensures) (c.byte_sums-lower.ensures.sum ∙ ap sum_l c.lower_bytes.ensures) in
    let bound : window_units c.args.values ≤ 2097152 = omega (arith, window_units-le c.args.values, c.fits-values.0) in
    omega (arith, joined_lanes 16 c.byte_sums-upper.result c.byte_sums-lower.result c.byte_sums-upper.ensures.lanes c.byte_sums-lower.ensures.lanes (omega (arith, both, bound)), both, bound)

pub returns-clause-units : goal.returns-clause-units
returns-clause-units c =
    let both : 256 * sum_l c.byte_sums-upper.result + sum_l c.byte_sums-lower.result ≡ window_units c.args.values =
    sums_by_bytes c.args.values _ _ (c.byte_sums-upper.ensures.sum ∙ ap sum_l c.upper_bytes.ensures) (c.byte_sums-lower.ensures.sum ∙ ap sum_l c.lower_bytes.ensures) in
    let bound : window_units c.args.values ≤ 2097152 = omega (arith, window_units-le c.args.values, c.fits-values.0) in
    c.lane_sum.ensures
    ∙ joined_lanes 16 c.byte_sums-upper.result c.byte_sums-lower.result c.byte_sums-upper.ensures.lanes c.byte_sums-lower.ensures.lanes (omega (arith, both, bound))
    ∙ both

pub returns-clause-bound : goal.returns-clause-bound
returns-clause-bound c = omega (arith, returns-clause-units c, window_units-le c.args.values, c.fits-values.0)
