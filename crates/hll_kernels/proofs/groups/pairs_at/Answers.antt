-- SPDX-License-Identifier: Apache-2.0
use Rattle.std.proofs.Common.{◌∙◌, ◌-◌, ℕ, List, arith, drop, ap}
use borrow.Rule.Slice.PartMut.{mid_of}
use Rattle.std.proofs.lemmas.List.{take-take}
use Rattle.hll_kernels.specs.Packed.{fields}
use Rattle.hll_kernels.proofs.groups.pairs_at.Goals as goal

pub returns-clause-fields : goal.returns-clause-fields
returns-clause-fields c =
    let at = c.args.at in
    let xs = c.args.block.now in
    let ys : List ℕ = mid_of at (48 - at) xs in
    c.first_pairs.ensures.fields ∙ ap fields (take-take 12 16 ys (omega arith) ∙ take-take 12 (48 - at) (drop at xs) (omega (arith, c.requires)))
