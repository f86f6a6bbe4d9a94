-- SPDX-License-Identifier: Apache-2.0
use Rattle.std.proofs.Common.{ap, ◌∙◌}
use Rattle.std.proofs.Math.ListN.{set}
use Rattle.hll_kernels.proofs.Parts.{max_at-one}
use Rattle.hll_kernels.proofs.kernels.max_one.Goals as goal

pub returns : goal.returns
returns c = ap (set c.args.dst.now c.args.at) c.max.ensures ∙ max_at-one c.args.at c.args.dst.now c.args.value c.requires
