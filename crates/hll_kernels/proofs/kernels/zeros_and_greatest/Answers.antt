-- SPDX-License-Identifier: Apache-2.0
use Rattle.std.proofs.Common.{◌≡◌, ◌≤◌, ◌==◌, ◌+◌, ◌*◌, ◌/◌, [], length, drop, sym, ap, ◌∙◌, arith}
use Rattle.std.specs.Prelude.{nat_le}
use Rattle.std.proofs.lemmas.Grind.{common_steps}
use Rattle.hll_kernels.proofs.Bounds.{block_max, whole_max}
use Rattle.hll_kernels.proofs.ZeroTests.{count_block, count_rest, count_by-take-le}
use Rattle.hll_kernels.proofs.kernels.zeros_and_greatest.Goals as goal

pub loop-part-preserved : goal.loop-part-preserved
loop-part-preserved c = (
  count_block _ _ _ _ _ _ _ _ _ c.loop-part.invariant.0 c.as_chunks.ensures.front (omega arith) c.zeros_and_greatest_in-more.ensures.zeros,
  λ bound. block_max bound 8192 _ c.args.bytes.now c.as_chunks.result.0.now c.loop-part.part-index [] c.as_chunks.ensures.front (omega arith) c.loop-part.greatest c.zeros_and_greatest_in-more.result.1
      (c.loop-part.invariant.1 bound) (c.zeros_and_greatest_in-more.ensures.greatest bound) ∙ ap (λ m. nat_le m bound) (sym c.max-greatest.ensures),
)

pub overflow_add-count : goal.overflow_add-count
overflow_add-count c =
    let more = count_block _ _ _ _ _ _ _ _ _ c.loop-part.invariant.0 c.as_chunks.ensures.front (omega arith) c.zeros_and_greatest_in-more.ensures.zeros in
    let few : c.loop-part.count + c.zeros_and_greatest_in-more.result.0 ≤ length c.args.bytes.now = count_by-take-le (λ x. x == 0) c.args.bytes.now ((c.loop-part.part-index + 1) * 8192) _ more in
    grind (arith, common_steps, few)

pub returns-clause-zeros : goal.returns-clause-zeros
returns-clause-zeros c =
    let B = c.args.bytes.now in
    let i = c.loop-part.part-index in
    let e : i ≡ length B / 8192 = omega (arith, c.loop-part-test.false, c.loop-part.auto.part-index-end, c.as_chunks.ensures.front_len) in
    count_rest (λ v. v == 0) (i * 8192) B c.as_chunks.result.1.now c.loop-part.count c.zeros_and_greatest_in-more-2.result.0 c.loop-part.invariant.0
    (c.as_chunks.ensures.back ∙ ap (λ n. drop (n * 8192) B) (sym e)) c.zeros_and_greatest_in-more-2.ensures.zeros

pub returns-clause-greatest : goal.returns-clause-greatest
returns-clause-greatest c bound =
    let e : c.loop-part.part-index ≡ length c.args.bytes.now / 8192 = omega (arith, c.loop-part-test.false, c.loop-part.auto.part-index-end, c.as_chunks.ensures.front_len) in
    whole_max bound 8192 _ _ c.args.bytes.now c.as_chunks.result.1.now _ _ e c.as_chunks.ensures.back (c.loop-part.invariant.1 bound) (c.zeros_and_greatest_in-more-2.ensures.greatest bound)
    ∙ ap (λ m. nat_le m bound) (sym c.max.ensures)
