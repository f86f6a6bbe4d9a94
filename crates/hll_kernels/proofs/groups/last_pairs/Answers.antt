-- SPDX-License-Identifier: Apache-2.0
use Rattle.std.proofs.Common.{w8}
use Rattle.std.proofs.lemmas.Simd.{below_from_Fits}
use Rattle.hll_kernels.proofs.SixBitLanes.{pairs-swizzle_last}
use Rattle.hll_kernels.proofs.groups.last_pairs.Goals as goal

pub returns-clause-fields : goal.returns-clause-fields
returns-clause-fields c = pairs-swizzle_last c.args.bytes c.fits-bytes.0 (below_from_Fits w8 _ c.fits-bytes.1)
