-- SPDX-License-Identifier: Apache-2.0
use Rattle.std.proofs.Common.{ap, ◌∙◌}
use Rattle.hll_base.specs.Join.{join}
use Rattle.hll_kernels.specs.Packed.{fields}
use Rattle.hll_kernels.proofs.SixBitLanes.{fields-flat_map}
use Rattle.hll_kernels.proofs.groups.max_groups_into.Goals as goal

pub returns : goal.returns
returns c =
    c.max_with_fields.ensures ∙ ap (λ B. join c.args.dst.now (fields B)) c.as_flattened.ensures.value
    ∙ ap (join c.args.dst.now) (fields-flat_map c.args.groups.now c.told-groups)
