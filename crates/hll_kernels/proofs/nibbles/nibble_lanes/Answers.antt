-- SPDX-License-Identifier: Apache-2.0
use Rattle.std.proofs.Common.{w8}
use Rattle.std.proofs.lemmas.Simd.{below_from_Fits}
use Rattle.hll_kernels.proofs.FourBitLanes.{nibbles_in_turn}
use Rattle.hll_kernels.proofs.nibbles.nibble_lanes.Goals as goal

pub returns-clause-nibbles : goal.returns-clause-nibbles
returns-clause-nibbles c = nibbles_in_turn c.args.minimum c.args.bytes c.requires c.fits-bytes.0 (below_from_Fits w8 _ c.fits-bytes.1)
