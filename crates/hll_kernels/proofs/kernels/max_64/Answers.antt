-- SPDX-License-Identifier: Apache-2.0
use Rattle.hll_kernels.proofs.Parts.{max_lanes}
use Rattle.hll_kernels.proofs.kernels.max_64.Goals as goal

pub returns : goal.returns
returns c = max_lanes c.args.at 64 c.args.dst.now c.args.lanes c.fits-lanes.0 c.requires
