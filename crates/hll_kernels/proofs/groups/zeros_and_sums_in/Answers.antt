-- SPDX-License-Identifier: Apache-2.0
use Rattle.std.proofs.Common.{◌==◌, subst, ap, ◌∙◌, arith}
use Rattle.std.proofs.lemmas.List.Sums.{count_by-le-length}
use Rattle.hll_kernels.specs.Groups.{registers_in}
use Rattle.hll_kernels.specs.Packed.{fields, zeros}
use Rattle.hll_kernels.specs.WeightSums.{AreSumsOf}
use Rattle.hll_kernels.proofs.Grouping.{length-registers_in}
use Rattle.hll_kernels.proofs.SixBitLanes.{fields-flat_map}
use Rattle.hll_kernels.proofs.groups.zeros_and_sums_in.Goals as goal

pub returns-clause-zeros : goal.returns-clause-zeros
returns-clause-zeros c =
    c.zeros_and_field_sums.ensures.zeros ∙ ap (λ B. zeros (fields B)) c.as_flattened.ensures.value ∙ ap zeros (fields-flat_map c.args.groups.now c.told-groups)

pub returns-clause-bound : goal.returns-clause-bound
returns-clause-bound c = omega (arith, returns-clause-zeros c, count_by-le-length (λ v. v == 0) (registers_in c.args.groups.now), length-registers_in c.args.groups.now)

pub returns-clause-sums : goal.returns-clause-sums
returns-clause-sums c = subst (AreSumsOf c.zeros_and_field_sums.result.1) (ap fields c.as_flattened.ensures.value ∙ fields-flat_map c.args.groups.now c.told-groups) c.zeros_and_field_sums.ensures.sums
