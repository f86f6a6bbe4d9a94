-- SPDX-License-Identifier: Apache-2.0
use Rattle.std.proofs.Common.{◌==◌, ap, ◌∙◌, arith}
use Rattle.std.proofs.lemmas.List.Sums.{count_by-le-length}
use Rattle.hll_kernels.specs.Groups.{registers_in}
use Rattle.hll_kernels.specs.Packed.{zeros, fields}
use Rattle.hll_kernels.proofs.Grouping.{length-registers_in}
use Rattle.hll_kernels.proofs.SixBitLanes.{fields-flat_map}
use Rattle.hll_kernels.proofs.groups.count_zeros_in.Goals as goal

pub returns-clause-count : goal.returns-clause-count
returns-clause-count c = c.zero_fields.ensures ∙ ap (λ B. zeros (fields B)) c.as_flattened.ensures.value ∙ ap zeros (fields-flat_map c.args.groups.now c.told-groups)

pub returns-clause-bound : goal.returns-clause-bound
returns-clause-bound c = omega (arith, returns-clause-count c, count_by-le-length (λ v. v == 0) (registers_in c.args.groups.now), length-registers_in c.args.groups.now)
