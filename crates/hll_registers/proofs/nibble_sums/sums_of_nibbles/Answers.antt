-- SPDX-License-Identifier: Apache-2.0
use Rattle.std.proofs.Common.{◌≡◌, ◌<◌, ◌/◌, ℕ, List, All, length, get_or, subst, ◌∙◌, arith}
use Rattle.std.specs.Prelude.{IfSome}
use Rattle.std.proofs.lemmas.List.{take_all}
use Rattle.hll_kernels.specs.Lanes.{nibble_values}
use Rattle.hll_kernels.specs.WeightSums.{AreSumsOf}
use Rattle.hll_kernels.proofs.Blocks.{get_or-blocks}
use Rattle.hll_registers.proofs.nibble_sums.sums_of_nibbles.Goals as goal

pub returns : goal.returns
returns c =
    let B : List ℕ = c.args.bytes.now in
    let F = c.as_chunks.result.0.now in
    let same : get_or F 0 _ ≡ B = get_or-blocks 64 (length B / 64) B F 0 _ c.as_chunks.ensures.front (omega (arith, c.if-bytes-ne64.false)) ∙ take_all 64 B (omega (arith, c.if-bytes-ne64.false)) in
    record {
      unmarked = λ some. subst (λ Q. All (λ n. n < 15) (nibble_values 0 Q)) same (c.unmarked_sums.ensures.unmarked.0 some);
      sums = subst (λ Q. IfSome c.unmarked_sums.result (λ s. AreSumsOf s (nibble_values c.args.minimum Q))) same c.unmarked_sums.ensures.sums;
    }
