-- SPDX-License-Identifier: Apache-2.0
use Rattle.std.proofs.Common.{◌<◌, ◌≤◌, ◌/◌, ℕ, List, All, length, sym, subst, arith}
use Rattle.std.proofs.lemmas.List.Elements.{All-from_get_or}
use Rattle.hll_kernels.proofs.SixBitLanes.{small-fields}
use Rattle.hll_kernels.proofs.groups.field_sums_one_by_one.Goals as goal

pub weight_sums-requires-clause-small : goal.weight_sums-requires-clause-small
weight_sums-requires-clause-small c =
    let B : List ℕ = c.args.bytes.now in
    subst (All (λ v. v ≤ 63)) (sym c.unpacked-registers.ensures)
    (small-fields (length B / 3) B (omega (arith, c.requires.whole)) (All-from_get_or (λ b. b < 256) B 0 (λ i h. (c.type_inv.bytes i).fits)))
