-- SPDX-License-Identifier: Apache-2.0
use Rattle.hll_kernels.proofs.NibbleWeights.{low_lanes}
use Rattle.hll_kernels.proofs.nibbles.low_nibbles.Goals as goal

pub returns : goal.returns
returns c = low_lanes 64 c.args.block.now c.told-block
