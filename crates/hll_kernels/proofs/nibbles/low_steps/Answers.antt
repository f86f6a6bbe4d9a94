-- SPDX-License-Identifier: Apache-2.0
use Rattle.hll_kernels.proofs.Lowering.{low_step_lanes}
use Rattle.hll_kernels.proofs.nibbles.low_steps.Goals as goal

pub returns : goal.returns
returns c = low_step_lanes 32 c.args.bytes c.fits-bytes.0
