-- SPDX-License-Identifier: Apache-2.0
use Rattle.std.proofs.Common.{◌==◌, ◌*◌, ◌/◌, ◌++◌, length, take, sym, ap, subst, ◌∙◌, arith}
use Rattle.std.proofs.lemmas.List.Sums.{count_by-le-length}
use Rattle.hll_kernels.specs.Packed.{fields}
use Rattle.hll_kernels.specs.ZeroCounts.{AreRunningZeros}
use Rattle.hll_kernels.proofs.FieldBlocks.{one_more, all, size_within, size_before, zeros_joined}
use Rattle.hll_kernels.proofs.SixBitLanes.{length-fields}
use Rattle.hll_kernels.proofs.groups.zero_fields_in.Goals as goal

pub add-requires : goal.add-requires
add-requires c =
    (fields (take (c.loop-block.block-index * 48) c.args.bytes.now), c.loop-block.invariant, omega (arith, size_before c.loop-block.block-index c.args.bytes.now (omega (arith, c.loop-block-test.true, c.as_chunks.ensures.front_len)), c.requires.few))

pub loop-block-preserved : goal.loop-block-preserved
loop-block-preserved c =
    let more = one_more c.loop-block.block-index c.args.bytes.now _ c.as_chunks.ensures.front (omega (arith, c.loop-block-test.true, c.as_chunks.ensures.front_len)) in
    subst (AreRunningZeros _) (ap (λ Q. fields (take (c.loop-block.block-index * 48) c.args.bytes.now) ++ Q) c.fields_in.ensures ∙ sym more) (c.add.ensures _ c.loop-block.invariant)

pub total-requires : goal.total-requires
total-requires c =
    (fields (take (c.loop-block.block-index * 48) c.args.bytes.now), c.loop-block.invariant, omega (arith, size_within c.loop-block.block-index c.args.bytes.now (omega (arith, c.loop-block.auto.block-index-end, c.as_chunks.ensures.front_len)), c.requires.few))

pub returns-clause-count : goal.returns-clause-count
returns-clause-count c =
    let whole = all c.loop-block.block-index c.args.bytes.now _ (omega (arith, c.loop-block-test.false, c.loop-block.auto.block-index-end, c.as_chunks.ensures.front_len)) c.as_chunks.ensures.back in
    zeros_joined (fields (take (c.loop-block.block-index * 48) c.args.bytes.now)) (fields c.as_chunks.result.1.now) _ _ _ whole (c.total.ensures _ c.loop-block.invariant) c.zero_fields_one_by_one.ensures.count

pub returns-clause-bound : goal.returns-clause-bound
returns-clause-bound c =
    let size = length-fields (length c.args.bytes.now / 3) c.args.bytes.now (omega (arith, c.requires.whole)) in
    omega (arith, returns-clause-count c, count_by-le-length (λ v. v == 0) (fields c.args.bytes.now), size, c.requires.few)

pub overflow_add-result : goal.overflow_add-result
overflow_add-result c = record { fits = omega (arith, returns-clause-bound c) }
