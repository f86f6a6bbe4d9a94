-- SPDX-License-Identifier: Apache-2.0
use Rattle.std.proofs.Common.{w8}
use Rattle.std.proofs.lemmas.Simd.{below_from_Fits}
use Rattle.hll_kernels.proofs.FourBitLanes.{nibble_lanes}
use Rattle.hll_kernels.proofs.nibbles.nibbles_above.Goals as goal

pub returns : goal.returns
returns c = nibble_lanes 16 c.args.minimum c.args.values c.fits-values.0 c.ranges.minimum.fits (below_from_Fits w8 _ c.fits-values.1)
