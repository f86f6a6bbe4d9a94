-- SPDX-License-Identifier: Apache-2.0
use Rattle.std.proofs.Common.{w8}
use Rattle.std.proofs.lemmas.Simd.{below_from_Fits}
use Rattle.hll_kernels.proofs.SixBitLanes.{digits_words}
use Rattle.hll_kernels.proofs.groups.words_in.Goals as goal

pub returns : goal.returns
returns c = digits_words 4 c.args.bytes c.fits-bytes.0 (below_from_Fits w8 _ c.fits-bytes.1)
