-- SPDX-License-Identifier: Apache-2.0
use Rattle.std.proofs.Common.{◌+◌, ◌-◌, ◌%◌}
use Rattle.std.proofs.lemmas.Simd.{zip2_splat}
use Rattle.hll_kernels.proofs.kernels.differences.Goals as goal

pub returns : goal.returns
returns c = zip2_splat (λ a b. (a + (256 - b)) % 256) c.args.block.now 64 c.args.least c.told-block
