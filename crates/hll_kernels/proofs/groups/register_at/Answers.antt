-- SPDX-License-Identifier: Apache-2.0
use Rattle.std.proofs.Common.{◌%◌, [], get_or, sym, ap, ◌∙◌}
use Rattle.hll_kernels.proofs.Grouping.{get_or-registers_in}
use Rattle.hll_kernels.proofs.groups.register_at.Goals as goal

pub returns : goal.returns
returns c = ap (λ R. get_or R (c.args.slot % 4) 0) c.unpack_group.ensures.fields ∙ sym (get_or-registers_in c.args.groups.now c.args.slot [] c.requires)
