-- SPDX-License-Identifier: Apache-2.0
use Rattle.std.proofs.Common.{◌≡◌, ◌≤◌, ◌==◌, ◌+◌, ◌*◌, ◌/◌, length, drop, sym, ap, ◌∙◌, arith}
use Rattle.std.proofs.lemmas.Grind.{common_steps}
use Rattle.hll_kernels.proofs.ZeroTests.{count_block, count_rest, count_by-take-le}
use Rattle.hll_kernels.proofs.kernels.count_zeros.Goals as goal

pub loop-part-preserved : goal.loop-part-preserved
loop-part-preserved c = count_block _ _ _ _ _ _ _ _ _ c.loop-part.invariant c.as_chunks.ensures.front (omega arith) c.zeros_in-count.ensures.zeros

pub overflow_add-count : goal.overflow_add-count
overflow_add-count c =
    let more = count_block _ _ _ _ _ _ _ _ _ c.loop-part.invariant c.as_chunks.ensures.front (omega arith) c.zeros_in-count.ensures.zeros in
    let few : c.loop-part.count + c.zeros_in-count.result ≤ length c.args.bytes.now = count_by-take-le (λ x. x == 0) c.args.bytes.now ((c.loop-part.part-index + 1) * 8192) _ more in
    grind (arith, common_steps, few)

pub returns-clause-zeros : goal.returns-clause-zeros
returns-clause-zeros c =
    let B = c.args.bytes.now in
    let i = c.loop-part.part-index in
    let e : i ≡ length B / 8192 = omega (arith, c.loop-part-test.false, c.loop-part.auto.part-index-end, c.as_chunks.ensures.front_len) in
    count_rest (λ v. v == 0) (i * 8192) B c.as_chunks.result.1.now c.loop-part.count c.zeros_in.result c.loop-part.invariant
    (c.as_chunks.ensures.back ∙ ap (λ n. drop (n * 8192) B) (sym e)) c.zeros_in.ensures.zeros
