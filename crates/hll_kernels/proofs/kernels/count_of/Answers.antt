-- SPDX-License-Identifier: Apache-2.0
use Rattle.std.proofs.Common.{◌≡◌, ◌==◌, ◌*◌, ◌/◌, length, drop, sym, ap, ◌∙◌, arith}
use Rattle.hll_kernels.proofs.ZeroTests.{count_block, count_rest}
use Rattle.hll_kernels.proofs.kernels.count_of.Goals as goal

pub loop-block-preserved : goal.loop-block-preserved
loop-block-preserved c = count_block (λ v. v == c.args.value) _ _ _ _ _ _ _ _ c.loop-block.invariant c.as_chunks.ensures.front (omega (arith, c.loop-block-test.true)) (c.from-count.ensures ∙ c.count_of_few.ensures.count)

pub returns-clause-count : goal.returns-clause-count
returns-clause-count c =
    let B = c.args.bytes.now in
    let i = c.loop-block.block-index in
    let e : i ≡ length B / 64 = omega (arith, c.loop-block-test.false, c.loop-block.auto.block-index-end, c.as_chunks.ensures.front_len) in
    count_rest (λ v. v == c.args.value) (i * 64) B c.as_chunks.result.1.now c.loop-block.count c.from.result c.loop-block.invariant
    (c.as_chunks.ensures.back ∙ ap (λ n. drop (n * 64) B) (sym e)) (c.from.ensures ∙ c.count_of_few-2.ensures.count)
