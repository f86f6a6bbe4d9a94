-- SPDX-License-Identifier: Apache-2.0
use Rattle.std.proofs.Common.{◌+◌, w32}
use Rattle.std.proofs.lemmas.Simd.{adds_fit, sum-zip2, length-zip2}
use Rattle.hll_kernels.proofs.kernels.lanes_added.Goals as goal

pub overflow_add-result : goal.overflow_add-result
overflow_add-result c = adds_fit w32 c.args.lanes c.args.others c.requires.small

pub returns-clause-sum : goal.returns-clause-sum
returns-clause-sum c = sum-zip2 c.args.lanes c.args.others c.requires.lanes

pub returns-clause-lanes : goal.returns-clause-lanes
returns-clause-lanes c = length-zip2 (λ a b. a + b) c.args.lanes c.args.others c.requires.lanes
