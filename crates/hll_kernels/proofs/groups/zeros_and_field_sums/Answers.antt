-- SPDX-License-Identifier: Apache-2.0
use Rattle.std.proofs.Common.{◌≤◌, ◌+◌, ◌*◌, ◌^◌, ℕ, List, [], length, get_or, take, sym, subst, arith}
use Rattle.std.proofs.lemmas.List.{length-take}
use Rattle.hll_kernels.specs.Packed.{fields}
use Rattle.hll_kernels.specs.WeightSums.{AreSumsOf}
use Rattle.hll_kernels.proofs.FieldBlocks.{one_part_more, all_parts, zeros_joined, few_zeros}
use Rattle.hll_kernels.proofs.SixBitLanes.{length-fields-le}
use Rattle.hll_kernels.proofs.WeightParts.{AreSumsOf-append, AreSumsOf-fits}
use Rattle.hll_kernels.proofs.groups.zeros_and_field_sums.Goals as goal

pub overflow_add-count : goal.overflow_add-count
overflow_add-count c = record { fits = omega (arith, c.loop-part.invariant.0, few_zeros (c.loop-part.part-index * 6144) c.args.bytes.now c.requires.few, c.zeros_and_field_sums_in-more.ensures.bound) }

pub overflow_add-result : goal.overflow_add-result
overflow_add-result c = record { fits = omega (arith, c.loop-part.invariant.0, few_zeros (c.loop-part.part-index * 6144) c.args.bytes.now c.requires.few, c.zeros_and_field_sums_in-more-2.ensures.bound) }

pub plus-sums-requires : goal.plus-sums-requires
plus-sums-requires c =
    let B : List ℕ = c.args.bytes.now in
    let i : ℕ = c.loop-part.part-index in
    let few : length (fields (take ((i + 1) * 6144) B)) ≤ 2 ^ 23 = omega (arith, length-fields-le (take ((i + 1) * 6144) B), length-take ((i + 1) * 6144) B, c.requires.few) in
    let more = one_part_more i B _ c.as_chunks.ensures.front (omega (arith, c.loop-part-test.true, c.as_chunks.ensures.front_len)) in
    let fit = AreSumsOf-fits _ _ _ _ _ c.loop-part.invariant.1 c.zeros_and_field_sums_in-more.ensures.sums more few in
    record { low = fit.0; high = fit.1 }

pub loop-part-preserved : goal.loop-part-preserved
loop-part-preserved c =
    let more = one_part_more c.loop-part.part-index c.args.bytes.now _ c.as_chunks.ensures.front (omega (arith, c.loop-part-test.true, c.as_chunks.ensures.front_len)) in (
      zeros_joined (fields (take (c.loop-part.part-index * 6144) c.args.bytes.now)) (fields (get_or c.as_chunks.result.0.now c.loop-part.part-index [])) _ _ _ more c.loop-part.invariant.0 c.zeros_and_field_sums_in-more.ensures.zeros,
      subst (AreSumsOf _) (sym more) (AreSumsOf-append _ _ _ _ _ c.loop-part.invariant.1 c.zeros_and_field_sums_in-more.ensures.sums c.plus-sums.ensures.low c.plus-sums.ensures.high),
    )

pub plus-requires : goal.plus-requires
plus-requires c =
    let whole = all_parts c.loop-part.part-index c.args.bytes.now _ (omega (arith, c.loop-part-test.false, c.loop-part.auto.part-index-end, c.as_chunks.ensures.front_len)) c.as_chunks.ensures.back in
    let fit = AreSumsOf-fits _ _ _ _ _ c.loop-part.invariant.1 c.zeros_and_field_sums_in-more-2.ensures.sums whole (omega (arith, length-fields-le c.args.bytes.now, c.requires.few)) in
    record { low = fit.0; high = fit.1 }

pub returns-clause-zeros : goal.returns-clause-zeros
returns-clause-zeros c =
    let whole = all_parts c.loop-part.part-index c.args.bytes.now _ (omega (arith, c.loop-part-test.false, c.loop-part.auto.part-index-end, c.as_chunks.ensures.front_len)) c.as_chunks.ensures.back in
    zeros_joined (fields (take (c.loop-part.part-index * 6144) c.args.bytes.now)) (fields c.as_chunks.result.1.now) _ _ _ whole c.loop-part.invariant.0 c.zeros_and_field_sums_in-more-2.ensures.zeros

pub returns-clause-sums : goal.returns-clause-sums
returns-clause-sums c =
    let whole = all_parts c.loop-part.part-index c.args.bytes.now _ (omega (arith, c.loop-part-test.false, c.loop-part.auto.part-index-end, c.as_chunks.ensures.front_len)) c.as_chunks.ensures.back in
    subst (AreSumsOf _) (sym whole) (AreSumsOf-append _ _ _ _ _ c.loop-part.invariant.1 c.zeros_and_field_sums_in-more-2.ensures.sums c.plus.ensures.low c.plus.ensures.high)
