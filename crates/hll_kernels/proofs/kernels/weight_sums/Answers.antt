-- SPDX-License-Identifier: Apache-2.0
use Rattle.std.proofs.Common.{◌≡◌, ◌≤◌, ◌<◌, ◌*◌, ◌/◌, ◌++◌, ℕ, List, length, get_or, drop, take, sym, ap, subst, ◌∙◌, arith}
use Rattle.std.proofs.lemmas.List.{length-take, length-drop, take-append-drop}
use Rattle.std.proofs.lemmas.List.Elements.{All-drop}
use Rattle.hll_kernels.specs.WeightSums.{AreSumsOf, AreRunningSums}
use Rattle.hll_kernels.proofs.Blocks.{take_block, All-block}
use Rattle.hll_kernels.proofs.WeightParts.{AreSumsOf-append, AreSumsOf-fits}
use Rattle.hll_kernels.proofs.kernels.weight_sums.Goals as goal

-- the bytes of all blocks and of the rest
all : (i : ℕ) (B rest : List ℕ) → i ≡ length B / 64 → rest ≡ drop (length B / 64 * 64) B → B ≡ take (i * 64) B ++ rest
all i B rest e is = sym (ap (λ Q. take (i * 64) B ++ Q) (is ∙ ap (λ n. drop (n * 64) B) (sym e)) ∙ take-append-drop (i * 64) B)

pub add-requires-clause-small : goal.add-requires-clause-small
add-requires-clause-small c = All-block 64 _ c.args.bytes.now _ c.loop-block.block-index _ c.as_chunks.ensures.front (omega (arith, c.loop-block-test.true, c.as_chunks.ensures.front_len)) (λ v. v ≤ 63) c.requires.small

pub add-requires-clause-few : goal.add-requires-clause-few
add-requires-clause-few c =
    let B : List ℕ = c.args.bytes.now in
    (take (c.loop-block.block-index * 64) B, c.loop-block.invariant, omega (arith, length-take (c.loop-block.block-index * 64) B, c.loop-block-test.true, c.as_chunks.ensures.front_len, c.requires.few))

pub loop-block-preserved : goal.loop-block-preserved
loop-block-preserved c =
    let inside : c.loop-block.block-index < length c.args.bytes.now / 64 = omega (arith, c.loop-block-test.true, c.as_chunks.ensures.front_len) in
    subst (AreRunningSums _) (sym (take_block 64 _ c.args.bytes.now _ c.loop-block.block-index _ c.as_chunks.ensures.front inside)) (c.add.ensures _ c.loop-block.invariant)

pub total-requires : goal.total-requires
total-requires c = (take (c.loop-block.block-index * 64) c.args.bytes.now, c.loop-block.invariant, omega (arith, length-take (c.loop-block.block-index * 64) c.args.bytes.now, c.requires.few))

pub weight_sums_one_by_one-requires : goal.weight_sums_one_by_one-requires
weight_sums_one_by_one-requires c = record {
  small = subst (λ Q. (k d : ℕ) → k < length Q → get_or Q k d ≤ 63) (sym c.as_chunks.ensures.back) (All-drop (λ v. v ≤ 63) (length c.args.bytes.now / 64 * 64) c.args.bytes.now c.requires.small);
  few = omega (arith, ap length c.as_chunks.ensures.back, length-drop (length c.args.bytes.now / 64 * 64) c.args.bytes.now);
}

pub plus-requires : goal.plus-requires
plus-requires c =
    let B : List ℕ = c.args.bytes.now in
    let e : c.loop-block.block-index ≡ length B / 64 = omega (arith, c.loop-block-test.false, c.loop-block.auto.block-index-end, c.as_chunks.ensures.front_len) in
    let fit = AreSumsOf-fits _ _ _ _ _ (c.total.ensures _ c.loop-block.invariant) c.weight_sums_one_by_one.ensures (all c.loop-block.block-index B _ e c.as_chunks.ensures.back) (omega (arith, c.requires.few)) in
    record { low = fit.0; high = fit.1 }

pub returns : goal.returns
returns c =
    let B : List ℕ = c.args.bytes.now in
    let e : c.loop-block.block-index ≡ length B / 64 = omega (arith, c.loop-block-test.false, c.loop-block.auto.block-index-end, c.as_chunks.ensures.front_len) in
    subst (AreSumsOf _) (sym (all c.loop-block.block-index B _ e c.as_chunks.ensures.back))
    (AreSumsOf-append _ _ _ _ _ (c.total.ensures _ c.loop-block.invariant) c.weight_sums_one_by_one.ensures c.plus.ensures.low c.plus.ensures.high)
