-- SPDX-License-Identifier: Apache-2.0
use Rattle.std.proofs.Common.{arith}
use Rattle.hll_kernels.proofs.FourBitLanes.{at_most_by_mask}
use Rattle.hll_kernels.proofs.nibbles.are_at_most.Goals as goal

pub returns : goal.returns
returns c = at_most_by_mask 32 c.args.greatest c.args.block.now c.told-block (omega arith)
