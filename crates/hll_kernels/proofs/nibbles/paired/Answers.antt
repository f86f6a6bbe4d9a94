-- SPDX-License-Identifier: Apache-2.0
use Rattle.std.proofs.Common.{arith, ◌++◌}
use Rattle.std.proofs.lemmas.List.{length-append}
use Rattle.hll_kernels.proofs.FourBitLanes.{paired_lanes}
use Rattle.hll_kernels.proofs.nibbles.paired.Goals as goal

pub returns : goal.returns
returns c = paired_lanes (c.args.first ++ c.args.second) (omega (arith, length-append c.args.first c.args.second, c.fits-first.0, c.fits-second.0)) c.requires
