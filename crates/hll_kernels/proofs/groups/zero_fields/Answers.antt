-- SPDX-License-Identifier: Apache-2.0
use Rattle.std.proofs.Common.{◌*◌, [], get_or, take, arith}
use Rattle.hll_kernels.specs.Packed.{fields}
use Rattle.hll_kernels.proofs.FieldBlocks.{one_part_more, all_parts, zeros_joined, few_zeros}
use Rattle.hll_kernels.proofs.groups.zero_fields.Goals as goal

pub loop-part-preserved : goal.loop-part-preserved
loop-part-preserved c =
    let more = one_part_more c.loop-part.part-index c.args.bytes.now _ c.as_chunks.ensures.front (omega (arith, c.loop-part-test.true, c.as_chunks.ensures.front_len)) in
    zeros_joined (fields (take (c.loop-part.part-index * 6144) c.args.bytes.now)) (fields (get_or c.as_chunks.result.0.now c.loop-part.part-index [])) _ _ _ more c.loop-part.invariant c.zero_fields_in-count.ensures.count

pub returns : goal.returns
returns c =
    let whole = all_parts c.loop-part.part-index c.args.bytes.now _ (omega (arith, c.loop-part-test.false, c.loop-part.auto.part-index-end, c.as_chunks.ensures.front_len)) c.as_chunks.ensures.back in
    zeros_joined (fields (take (c.loop-part.part-index * 6144) c.args.bytes.now)) (fields c.as_chunks.result.1.now) _ _ _ whole c.loop-part.invariant c.zero_fields_in.ensures.count

pub overflow_add-count : goal.overflow_add-count
overflow_add-count c = record { fits = omega (arith, c.loop-part.invariant, few_zeros (c.loop-part.part-index * 6144) c.args.bytes.now c.requires.few, c.zero_fields_in-count.ensures.bound) }

pub overflow_add-result : goal.overflow_add-result
overflow_add-result c = record { fits = omega (arith, c.loop-part.invariant, few_zeros (c.loop-part.part-index * 6144) c.args.bytes.now c.requires.few, c.zero_fields_in.ensures.bound) }
