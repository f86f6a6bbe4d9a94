-- SPDX-License-Identifier: Apache-2.0
use Rattle.std.proofs.Common.{◌≡◌, ℕ, List, length, ◌∙◌}
use Rattle.hll_kernels.proofs.Bounds.{greater_half, length-greater_half, half_under}
use Rattle.hll_kernels.proofs.kernels.greatest_of_fours.Goals as goal

pub returns-clause-below : goal.returns-clause-below
returns-clause-below c bound =
    let twos : List ℕ = greater_half 32 c.args.lanes c.fits-lanes.0 tt tt in
    let long : length twos ≡ 32 = length-greater_half 32 c.args.lanes c.fits-lanes.0 tt tt in
    half_under 32 c.args.lanes c.fits-lanes.0 tt tt bound ∙ half_under 16 twos long tt tt bound
