-- SPDX-License-Identifier: Apache-2.0
use Rattle.std.proofs.Common.{All, ◌≤◌, ◌<◌, ◌==◌, ◌*◌, ◌/◌, ◌++◌, ℕ, List, length, take, sym, ap, subst, ◌∙◌, arith}
use Rattle.std.proofs.lemmas.List.Elements.{All-from_get_or}
use Rattle.std.proofs.lemmas.List.Sums.{count_by-le-length}
use Rattle.hll_kernels.specs.Packed.{fields}
use Rattle.hll_kernels.specs.WeightSums.{AreSumsOf, AreRunningSums}
use Rattle.hll_kernels.specs.ZeroCounts.{AreRunningZeros}
use Rattle.hll_kernels.proofs.SixBitLanes.{length-fields}
use Rattle.hll_kernels.proofs.FieldBlocks.{one_more, all, size_within, size_before, small_block, zeros_joined, few_zeros}
use Rattle.hll_kernels.proofs.WeightParts.{AreSumsOf-append, AreSumsOf-fits}
use Rattle.hll_kernels.proofs.groups.zeros_and_field_sums_in.Goals as goal

pub add-requires : goal.add-requires
add-requires c =
    let few = size_before c.loop-block.block-index c.args.bytes.now (omega (arith, c.loop-block-test.true, c.as_chunks.ensures.front_len)) in
    (fields (take (c.loop-block.block-index * 48) c.args.bytes.now), c.loop-block.invariant.0, omega (arith, few, c.requires.few))

pub add-requires-in-loop-block : goal.add-requires-in-loop-block
add-requires-in-loop-block c =
    let B : List ℕ = c.args.bytes.now in
    let inside : c.loop-block.block-index < length B / 48 = omega (arith, c.loop-block-test.true, c.as_chunks.ensures.front_len) in
    let few = size_before c.loop-block.block-index B inside in
    let small = small_block c.loop-block.block-index B _ c.as_chunks.ensures.front inside (All-from_get_or (λ b. b < 256) B 0 (λ j h. (c.type_inv.bytes j).fits)) in record {
      few = (fields (take (c.loop-block.block-index * 48) B), c.loop-block.invariant.1, omega (arith, few, c.requires.few));
      small = subst (All (λ v. v ≤ 63)) (sym c.fields_in-registers.ensures) small;
    }

pub loop-block-preserved : goal.loop-block-preserved
loop-block-preserved c =
    let i = c.loop-block.block-index in
    let B = c.args.bytes.now in
    let more = one_more i B _ c.as_chunks.ensures.front (omega (arith, c.loop-block-test.true, c.as_chunks.ensures.front_len)) in
    let same = ap (λ Q. fields (take (i * 48) B) ++ Q) c.fields_in-registers.ensures ∙ sym more in
    (subst (AreRunningZeros _) same (c.add.ensures _ c.loop-block.invariant.0), subst (AreRunningSums _) same (c.add-in-loop-block.ensures _ c.loop-block.invariant.1))

pub total-requires : goal.total-requires
total-requires c =
    let few = size_within c.loop-block.block-index c.args.bytes.now (omega (arith, c.loop-block.auto.block-index-end, c.as_chunks.ensures.front_len)) in
    (fields (take (c.loop-block.block-index * 48) c.args.bytes.now), c.loop-block.invariant.0, omega (arith, few, c.requires.few))

pub total-requires-2 : goal.total-requires-2
total-requires-2 c =
    let few = size_within c.loop-block.block-index c.args.bytes.now (omega (arith, c.loop-block.auto.block-index-end, c.as_chunks.ensures.front_len)) in
    (fields (take (c.loop-block.block-index * 48) c.args.bytes.now), c.loop-block.invariant.1, omega (arith, few, c.requires.few))

pub plus-requires : goal.plus-requires
plus-requires c =
    let B : List ℕ = c.args.bytes.now in
    let whole = all c.loop-block.block-index B _ (omega (arith, c.loop-block-test.false, c.loop-block.auto.block-index-end, c.as_chunks.ensures.front_len)) c.as_chunks.ensures.back in
    let few = length-fields (length B / 3) B (omega (arith, c.requires.whole)) in
    let fit = AreSumsOf-fits _ _ _ _ _ (c.total-2.ensures _ c.loop-block.invariant.1) c.field_sums_one_by_one.ensures whole (omega (arith, few, c.requires.few)) in
    record { low = fit.0; high = fit.1 }

pub returns-clause-zeros : goal.returns-clause-zeros
returns-clause-zeros c =
    let whole = all c.loop-block.block-index c.args.bytes.now _ (omega (arith, c.loop-block-test.false, c.loop-block.auto.block-index-end, c.as_chunks.ensures.front_len)) c.as_chunks.ensures.back in
    zeros_joined (fields (take (c.loop-block.block-index * 48) c.args.bytes.now)) (fields c.as_chunks.result.1.now) _ _ _ whole (c.total.ensures _ c.loop-block.invariant.0) c.zero_fields_one_by_one.ensures.count

pub overflow_add-result : goal.overflow_add-result
overflow_add-result c =
    let few = few_zeros (c.loop-block.block-index * 48) c.args.bytes.now (omega (arith, c.requires.few)) in
    record { fits = omega (arith, c.total.ensures _ c.loop-block.invariant.0, few, c.zero_fields_one_by_one.ensures.bound) }

pub returns-clause-bound : goal.returns-clause-bound
returns-clause-bound c =
    let size = length-fields (length c.args.bytes.now / 3) c.args.bytes.now (omega (arith, c.requires.whole)) in
    omega (arith, returns-clause-zeros c, count_by-le-length (λ v. v == 0) (fields c.args.bytes.now), size, c.requires.few)

pub returns-clause-sums : goal.returns-clause-sums
returns-clause-sums c =
    let whole = all c.loop-block.block-index c.args.bytes.now _ (omega (arith, c.loop-block-test.false, c.loop-block.auto.block-index-end, c.as_chunks.ensures.front_len)) c.as_chunks.ensures.back in
    subst (AreSumsOf _) (sym whole) (AreSumsOf-append _ _ _ _ _ (c.total-2.ensures _ c.loop-block.invariant.1) c.field_sums_one_by_one.ensures c.plus.ensures.low c.plus.ensures.high)
