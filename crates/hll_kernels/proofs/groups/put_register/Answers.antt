-- SPDX-License-Identifier: Apache-2.0
use Rattle.std.proofs.Common.{◌/◌, ◌%◌, [], ap, ◌∙◌}
use Rattle.std.proofs.Math.ListN.{set}
use Rattle.std.proofs.lemmas.List.Elements.{All-set}
use Rattle.hll_kernels.specs.Groups.{IsGroup}
use Rattle.hll_kernels.proofs.Grouping.{registers_in-set}
use Rattle.hll_kernels.proofs.groups.put_register.Goals as goal

pub returns-clause-registers : goal.returns-clause-registers
returns-clause-registers c =
    registers_in-set c.args.groups.now c.args.slot c.args.value c.pack_group.result [] c.requires.within
    (c.pack_group.ensures.fields ∙ ap (λ R. set R (c.args.slot % 4) c.args.value) c.unpack_group-registers.ensures.fields)

pub returns-clause-groups : goal.returns-clause-groups
returns-clause-groups c = All-set IsGroup c.args.groups.now (c.args.slot / 4) c.pack_group.result c.pack_group.ensures.group c.requires.groups
