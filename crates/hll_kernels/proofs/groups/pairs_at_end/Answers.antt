-- SPDX-License-Identifier: Apache-2.0
use Rattle.std.proofs.Common.{◌≡◌, ◌∙◌, ℕ, List, length, arith, drop, take, ap}
use borrow.Rule.Slice.PartMut.{mid_of}
use Rattle.std.proofs.lemmas.List.{length-drop, length-take-le, take_all, drop-drop}
use Rattle.hll_kernels.specs.Packed.{fields}
use Rattle.hll_kernels.proofs.groups.pairs_at_end.Goals as goal

pub returns-clause-fields : goal.returns-clause-fields
returns-clause-fields c =
    let xs = c.args.block.now in
    let ys : List ℕ = mid_of 32 16 xs in
    let long : length ys ≡ 16 = length-take-le 16 (drop 32 xs) (omega (arith, length-drop 32 xs, c.told-block)) in
    c.last_pairs.ensures.fields
    ∙ ap (λ zs. fields (take 12 (drop 4 zs))) (take_all 16 ys (omega (arith, long)) ∙ take_all 16 (drop 32 xs) (omega (arith, length-drop 32 xs, c.told-block)))
    ∙ ap (λ zs. fields (take 12 zs)) (drop-drop 4 32 xs)
