-- SPDX-License-Identifier: Apache-2.0
use Rattle.std.proofs.Common.{◌∙◌}
use Rattle.hll_kernels.proofs.WeightParts.{low_units-windows, high_units-windows}
use Rattle.hll_kernels.proofs.kernels.block_sums_by_windows.Goals as goal

pub returns : goal.returns
returns c = record {
  low = c.half_sum.ensures ∙ low_units-windows c.args.block.now c.requires;
  high = c.half_sum-2.ensures ∙ high_units-windows c.args.block.now c.requires;
}
