-- SPDX-License-Identifier: Apache-2.0
use Rattle.std.proofs.Common.{w8}
use Rattle.std.proofs.lemmas.Simd.{below_from_Fits}
use Rattle.hll_kernels.proofs.Lowering.{high_step_lanes}
use Rattle.hll_kernels.proofs.nibbles.high_steps.Goals as goal

pub returns : goal.returns
returns c = high_step_lanes 32 c.args.bytes c.fits-bytes.0 (below_from_Fits w8 _ c.fits-bytes.1)
