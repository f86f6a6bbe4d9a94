-- SPDX-License-Identifier: Apache-2.0
use Rattle.hll_kernels.proofs.Weights.{lower_by_table, table_has_each}
use Rattle.hll_kernels.proofs.kernels.lower_bytes.Goals as goal

pub swizzle : goal.swizzle
swizzle c = table_has_each c.args.values c.fits-values.0 c.requires

pub returns : goal.returns
returns c = lower_by_table c.args.values c.fits-values.0 c.requires
