-- SPDX-License-Identifier: Apache-2.0
use Rattle.hll_kernels.proofs.Weights.{sum_l-dots, dots_fit}
use Rattle.hll_kernels.proofs.kernels.byte_sums.Goals as goal

pub dot4 : goal.dot4
dot4 c = (dots_fit c.args.bytes c.fits-bytes.1, tt)

pub returns-clause-sum : goal.returns-clause-sum
returns-clause-sum c = (sum_l-dots c.args.bytes c.fits-bytes.0).0

pub returns-clause-lanes : goal.returns-clause-lanes
returns-clause-lanes c = (sum_l-dots c.args.bytes c.fits-bytes.0).1
