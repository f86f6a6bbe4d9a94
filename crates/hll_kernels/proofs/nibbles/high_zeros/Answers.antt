-- SPDX-License-Identifier: Apache-2.0
use Rattle.std.proofs.Common.{◌==◌, ◌/◌, arith}
use Rattle.std.proofs.lemmas.List.Sums.{count_by-le-length}
use Rattle.hll_kernels.proofs.Lowering.{high_zeros_by_mask}
use Rattle.hll_kernels.proofs.nibbles.high_zeros.Goals as goal

pub returns-clause-count : goal.returns-clause-count
returns-clause-count c = high_zeros_by_mask 32 c.args.bytes c.fits-bytes.0 (omega arith)

pub returns-clause-bound : goal.returns-clause-bound
returns-clause-bound c = omega (arith, high_zeros_by_mask 32 c.args.bytes c.fits-bytes.0 (omega arith), count_by-le-length (λ b. b / 16 == 0) c.args.bytes, c.fits-bytes.0)
