-- SPDX-License-Identifier: Apache-2.0
use Rattle.std.proofs.Common.{◌≡◌, [], ◌<◌, ◌==◌, ◌*◌, ◌/◌, ℕ, List, length, get_or, take, drop, sym, ap, subst, ◌∙◌, arith}
use Rattle.std.specs.Prelude.{nat_le}
use Rattle.std.proofs.lemmas.List.{length-take}
use Rattle.std.proofs.lemmas.List.Sums.{count_by-le-length}
use Rattle.hll_kernels.specs.ZeroCounts.{AreRunningZeros}
use Rattle.hll_kernels.proofs.Blocks.{take_block, length-block}
use Rattle.hll_kernels.proofs.Bounds.{block_within, whole_max}
use Rattle.hll_kernels.proofs.ZeroTests.{count_rest}
use Rattle.hll_kernels.proofs.kernels.zeros_and_greatest_in.Goals as goal

pub add-requires : goal.add-requires
add-requires c =
    let i : ℕ = c.loop-block.block-index in
    let inside : i < length c.args.bytes.now / 64 = omega (arith, c.loop-block-test.true, c.as_chunks.ensures.front_len) in
    (take (i * 64) c.args.bytes.now, c.loop-block.invariant.0, omega (arith, length-take (i * 64) c.args.bytes.now, inside, c.requires))

pub loop-block-preserved : goal.loop-block-preserved
loop-block-preserved c =
    let i : ℕ = c.loop-block.block-index in
    let B : List ℕ = c.args.bytes.now in
    let inside : i < length B / 64 = omega (arith, c.loop-block-test.true, c.as_chunks.ensures.front_len) in
    let long : length (get_or c.as_chunks.result.0.now i []) ≡ 64 = length-block 64 _ B c.as_chunks.result.0.now i [] c.as_chunks.ensures.front (omega arith) (omega (arith, inside)) in (
      subst (AreRunningZeros _) (sym (take_block 64 (length B / 64) B c.as_chunks.result.0.now i _ c.as_chunks.ensures.front inside)) (c.add.ensures _ c.loop-block.invariant.0),
      λ bound. block_within bound 64 _ B c.as_chunks.result.0.now i [] c.as_chunks.ensures.front (omega arith) c.loop-block.lanes (c.loop-block.auto.lanes.0 ∙ sym long) (c.loop-block.invariant.1 bound),
    )

pub total-requires : goal.total-requires
total-requires c = (take (c.loop-block.block-index * 64) c.args.bytes.now, c.loop-block.invariant.0, omega (arith, length-take (c.loop-block.block-index * 64) c.args.bytes.now, c.requires))

pub returns-clause-zeros : goal.returns-clause-zeros
returns-clause-zeros c =
    let B : List ℕ = c.args.bytes.now in
    let i : ℕ = c.loop-block.block-index in
    let e : i ≡ length B / 64 = omega (arith, c.loop-block-test.false, c.loop-block.auto.block-index-end, c.as_chunks.ensures.front_len) in
    count_rest (λ v. v == 0) (i * 64) B c.as_chunks.result.1.now c.total.result c.zeros_one_by_one.result (c.total.ensures _ c.loop-block.invariant.0)
    (c.as_chunks.ensures.back ∙ ap (λ n. drop (n * 64) B) (sym e)) c.zeros_one_by_one.ensures

pub overflow_add-result : goal.overflow_add-result
overflow_add-result c = record { fits = omega (arith, returns-clause-zeros c, count_by-le-length (λ v. v == 0) c.args.bytes.now, c.requires) }

pub returns-clause-bound : goal.returns-clause-bound
returns-clause-bound c = omega (arith, returns-clause-zeros c, count_by-le-length (λ v. v == 0) c.args.bytes.now, c.requires)

pub returns-clause-greatest : goal.returns-clause-greatest
returns-clause-greatest c bound =
    let e : c.loop-block.block-index ≡ length c.args.bytes.now / 64 = omega (arith, c.loop-block-test.false, c.loop-block.auto.block-index-end, c.as_chunks.ensures.front_len) in
    whole_max bound 64 _ _ c.args.bytes.now c.as_chunks.result.1.now _ _ e c.as_chunks.ensures.back (c.loop-block.invariant.1 bound ∙ c.greatest_one_by_one.ensures bound) (c.greatest_one_by_one-2.ensures bound)
    ∙ ap (λ m. nat_le m bound) (sym c.max-greatest.ensures)
