-- SPDX-License-Identifier: Apache-2.0
use Rattle.hll_kernels.proofs.ZeroTests.{nonzeros_by_mask}
use Rattle.hll_kernels.proofs.kernels.nonzeros_in.Goals as goal

pub returns : goal.returns
returns c = nonzeros_by_mask c.args.block.now c.told-block
