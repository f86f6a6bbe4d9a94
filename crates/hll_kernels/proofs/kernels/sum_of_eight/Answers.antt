-- SPDX-License-Identifier: Apache-2.0
use Rattle.std.proofs.Common.{◌∙◌, w32, arith}
use Rattle.std.proofs.lemmas.Simd.{sum_fits, fold-sum}
use Rattle.hll_kernels.proofs.kernels.sum_of_eight.Goals as goal

pub overflow_add-result : goal.overflow_add-result
overflow_add-result c = sum_fits w32 0 c.args.lanes (omega arith)

pub returns : goal.returns
returns c = fold-sum 0 c.args.lanes ∙ omega arith
