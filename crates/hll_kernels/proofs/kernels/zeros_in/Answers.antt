-- SPDX-License-Identifier: Apache-2.0
use Rattle.std.proofs.Common.{◌≡◌, ◌<◌, ◌==◌, ◌*◌, ◌/◌, ℕ, List, length, take, drop, sym, ap, subst, ◌∙◌, arith}
use Rattle.std.proofs.lemmas.List.{length-take}
use Rattle.std.proofs.lemmas.List.Sums.{count_by-le-length}
use Rattle.hll_kernels.specs.ZeroCounts.{AreRunningZeros}
use Rattle.hll_kernels.proofs.Blocks.{take_block}
use Rattle.hll_kernels.proofs.ZeroTests.{count_rest}
use Rattle.hll_kernels.proofs.kernels.zeros_in.Goals as goal

pub add-requires : goal.add-requires
add-requires c =
    let i : ℕ = c.loop-block.block-index in
    let inside : i < length c.args.bytes.now / 64 = omega (arith, c.loop-block-test.true, c.as_chunks.ensures.front_len) in
    (take (i * 64) c.args.bytes.now, c.loop-block.invariant, omega (arith, length-take (i * 64) c.args.bytes.now, inside, c.requires))

pub loop-block-preserved : goal.loop-block-preserved
loop-block-preserved c =
    let i : ℕ = c.loop-block.block-index in
    let B : List ℕ = c.args.bytes.now in
    let inside : i < length B / 64 = omega (arith, c.loop-block-test.true, c.as_chunks.ensures.front_len) in
    subst (AreRunningZeros _) (sym (take_block 64 (length B / 64) B c.as_chunks.result.0.now i _ c.as_chunks.ensures.front inside)) (c.add.ensures _ c.loop-block.invariant)

pub total-requires : goal.total-requires
total-requires c = (take (c.loop-block.block-index * 64) c.args.bytes.now, c.loop-block.invariant, omega (arith, length-take (c.loop-block.block-index * 64) c.args.bytes.now, c.requires))

pub returns-clause-zeros : goal.returns-clause-zeros
returns-clause-zeros c =
    let B : List ℕ = c.args.bytes.now in
    let i : ℕ = c.loop-block.block-index in
    let e : i ≡ length B / 64 = omega (arith, c.loop-block-test.false, c.loop-block.auto.block-index-end, c.as_chunks.ensures.front_len) in
    count_rest (λ v. v == 0) (i * 64) B c.as_chunks.result.1.now c.total.result c.zeros_one_by_one.result (c.total.ensures _ c.loop-block.invariant)
    (c.as_chunks.ensures.back ∙ ap (λ n. drop (n * 64) B) (sym e)) c.zeros_one_by_one.ensures

pub overflow_add-result : goal.overflow_add-result
overflow_add-result c = record { fits = omega (arith, returns-clause-zeros c, count_by-le-length (λ v. v == 0) c.args.bytes.now, c.requires) }

pub returns-clause-bound : goal.returns-clause-bound
returns-clause-bound c = omega (arith, returns-clause-zeros c, count_by-le-length (λ v. v == 0) c.args.bytes.now, c.requires)
