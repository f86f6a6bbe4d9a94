-- SPDX-License-Identifier: Apache-2.0
use Rattle.std.proofs.Common.{◌/◌, ◌<◌, All, length, sym, ap, subst, ◌∙◌, arith}
use Rattle.std.proofs.lemmas.List.Elements.{All-from_get_or}
use Rattle.hll_kernels.specs.Groups.{IsGroup, registers_in}
use Rattle.hll_kernels.proofs.Grouping.{All-IsGroup-first_chunks, registers_in-first_chunks}
use Rattle.hll_kernels.proofs.groups.groups_in.Goals as goal

pub returns-clause-registers : goal.returns-clause-registers
returns-clause-registers c = ap registers_in c.as_chunks.ensures.front ∙ registers_in-first_chunks (length c.args.bytes.now / 3) c.args.bytes.now (omega arith) (omega arith)

pub returns-clause-groups : goal.returns-clause-groups
returns-clause-groups c =
    let bytes : All (λ v. v < 256) c.args.bytes.now = All-from_get_or (λ v. v < 256) c.args.bytes.now 0 (λ k h. omega (arith, c.type_inv.bytes k)) in
    subst (All IsGroup) (sym c.as_chunks.ensures.front) (All-IsGroup-first_chunks (length c.args.bytes.now / 3) c.args.bytes.now (omega arith) bytes)
