-- SPDX-License-Identifier: Apache-2.0
use Rattle.std.proofs.Common.{sym, ◌∙◌, arith}
use Rattle.hll_kernels.proofs.ZeroTests.{below_by_mask}
use Rattle.hll_kernels.proofs.kernels.are_below.Goals as goal

pub returns : goal.returns
returns c = below_by_mask 16 c.args.bound c.greatest_of_fours.result c.greatest_of_fours.ensures.lanes (omega arith) ∙ sym (c.greatest_of_fours.ensures.below c.args.bound)
