-- SPDX-License-Identifier: Apache-2.0
use Rattle.std.proofs.Common.{◌++◌, arith}
use Rattle.std.proofs.lemmas.List.{length-append}
use Rattle.std.proofs.lemmas.Simd.{pick_l_whole}
use Rattle.hll_kernels.proofs.groups.joined.Goals as goal

pub returns : goal.returns
returns c = pick_l_whole 0 (c.args.lanes ++ c.args.others) 32 (omega (arith, length-append c.args.lanes c.args.others, c.fits-lanes.0, c.fits-others.0))
