-- SPDX-License-Identifier: Apache-2.0
use Rattle.std.proofs.Common.{◌==◌, ◌∙◌, ap}
use Rattle.std.specs.List.{list_all}
use Rattle.hll_kernels.proofs.Grouping.{list_all-registers_in}
use Rattle.hll_kernels.proofs.groups.all_zero_in.Goals as goal

pub returns : goal.returns
returns c = c.all_zero.ensures ∙ ap (list_all (λ b. b == 0)) c.as_flattened.ensures.value ∙ list_all-registers_in c.args.groups.now c.requires
