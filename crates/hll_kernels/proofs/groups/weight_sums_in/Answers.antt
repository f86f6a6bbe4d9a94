-- SPDX-License-Identifier: Apache-2.0
use Rattle.std.proofs.Common.{subst, ap, ◌∙◌}
use Rattle.hll_kernels.specs.Packed.{fields}
use Rattle.hll_kernels.specs.WeightSums.{AreSumsOf}
use Rattle.hll_kernels.proofs.SixBitLanes.{fields-flat_map}
use Rattle.hll_kernels.proofs.groups.weight_sums_in.Goals as goal

pub returns : goal.returns
returns c = subst (AreSumsOf c.field_sums.result) (ap fields c.as_flattened.ensures.value ∙ fields-flat_map c.args.groups.now c.told-groups) c.field_sums.ensures
