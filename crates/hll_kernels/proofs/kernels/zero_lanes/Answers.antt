-- SPDX-License-Identifier: Apache-2.0
use Rattle.hll_kernels.proofs.ZeroTests.{zeros_by_lanes, length-zero_lanes, zero_lanes-le}
use Rattle.hll_kernels.proofs.kernels.zero_lanes.Goals as goal

pub returns-clause-count : goal.returns-clause-count
returns-clause-count c = zeros_by_lanes 64 c.args.values c.fits-values.0

pub returns-clause-lanes : goal.returns-clause-lanes
returns-clause-lanes c = length-zero_lanes 64 c.args.values c.fits-values.0

pub returns-clause-small : goal.returns-clause-small
returns-clause-small c = zero_lanes-le 64 c.args.values c.fits-values.0
