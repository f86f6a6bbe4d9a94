-- SPDX-License-Identifier: Apache-2.0
use Rattle.std.specs.Int.{w64}
use Rattle.std.proofs.lemmas.Nat.Bits.{bit_at-trailing_zeros}
use Rattle.hll_coupons.proofs.blocks.lowest.Goals as goal

pub returns-clause-set : goal.returns-clause-set
returns-clause-set c = (bit_at-trailing_zeros w64 c.args.block c.requires c.ranges.block.fits).1

pub returns-clause-before : goal.returns-clause-before
returns-clause-before c = (bit_at-trailing_zeros w64 c.args.block c.requires c.ranges.block.fits).2
