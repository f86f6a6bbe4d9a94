-- SPDX-License-Identifier: Apache-2.0
use Rattle.std.proofs.Common.{All, ◌≡◌, ◌≤◌, ◌<◌, ◌*◌, ◌/◌, ◌++◌, ℕ, List, length, take, sym, ap, subst, ◌∙◌, arith}
use Rattle.std.proofs.lemmas.List.Elements.{All-from_get_or}
use Rattle.hll_kernels.specs.Packed.{fields}
use Rattle.hll_kernels.specs.WeightSums.{AreSumsOf, AreRunningSums}
use Rattle.hll_kernels.proofs.SixBitLanes.{length-fields-le}
use Rattle.hll_kernels.proofs.FieldBlocks.{one_more, all, size_within, size_before, small_block}
use Rattle.hll_kernels.proofs.WeightParts.{AreSumsOf-append, AreSumsOf-fits}
use Rattle.hll_kernels.proofs.groups.field_sums.Goals as goal

pub add-requires-clause-few : goal.add-requires-clause-few
add-requires-clause-few c =
    let few = size_before c.loop-block.block-index c.args.bytes.now (omega (arith, c.loop-block-test.true, c.as_chunks.ensures.front_len)) in
    (fields (take (c.loop-block.block-index * 48) c.args.bytes.now), c.loop-block.invariant, omega (arith, few, c.requires.few))

pub add-requires-clause-small : goal.add-requires-clause-small
add-requires-clause-small c =
    let B : List ℕ = c.args.bytes.now in
    let inside : c.loop-block.block-index < length B / 48 = omega (arith, c.loop-block-test.true, c.as_chunks.ensures.front_len) in
    subst (All (λ v. v ≤ 63)) (sym c.fields_in.ensures) (small_block c.loop-block.block-index B _ c.as_chunks.ensures.front inside (All-from_get_or (λ b. b < 256) B 0 (λ j h. (c.type_inv.bytes j).fits)))

pub loop-block-preserved : goal.loop-block-preserved
loop-block-preserved c =
    let inside : c.loop-block.block-index < length c.args.bytes.now / 48 = omega (arith, c.loop-block-test.true, c.as_chunks.ensures.front_len) in
    subst (AreRunningSums _) (sym (one_more c.loop-block.block-index c.args.bytes.now _ c.as_chunks.ensures.front inside ∙ ap (λ Q. fields (take (c.loop-block.block-index * 48) c.args.bytes.now) ++ Q) (sym c.fields_in.ensures)))
    (c.add.ensures _ c.loop-block.invariant)

pub total-requires : goal.total-requires
total-requires c =
    let few = size_within c.loop-block.block-index c.args.bytes.now (omega (arith, c.loop-block.auto.block-index-end, c.as_chunks.ensures.front_len)) in
    (fields (take (c.loop-block.block-index * 48) c.args.bytes.now), c.loop-block.invariant, omega (arith, few, c.requires.few))

pub plus-requires : goal.plus-requires
plus-requires c =
    let B : List ℕ = c.args.bytes.now in
    let e : c.loop-block.block-index ≡ length B / 48 = omega (arith, c.loop-block-test.false, c.loop-block.auto.block-index-end, c.as_chunks.ensures.front_len) in
    let whole = all c.loop-block.block-index B _ e c.as_chunks.ensures.back in
    let fit = AreSumsOf-fits _ _ _ _ _ (c.total.ensures _ c.loop-block.invariant) c.field_sums_one_by_one.ensures whole (omega (arith, length-fields-le B, c.requires.few)) in
    record { low = fit.0; high = fit.1 }

pub returns : goal.returns
returns c =
    let B : List ℕ = c.args.bytes.now in
    let e : c.loop-block.block-index ≡ length B / 48 = omega (arith, c.loop-block-test.false, c.loop-block.auto.block-index-end, c.as_chunks.ensures.front_len) in
    subst (AreSumsOf _) (sym (all c.loop-block.block-index B _ e c.as_chunks.ensures.back))
    (AreSumsOf-append _ _ _ _ _ (c.total.ensures _ c.loop-block.invariant) c.field_sums_one_by_one.ensures c.plus.ensures.low c.plus.ensures.high)
