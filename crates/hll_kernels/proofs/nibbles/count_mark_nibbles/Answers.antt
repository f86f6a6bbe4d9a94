-- SPDX-License-Identifier: Apache-2.0
use Rattle.std.proofs.Common.{◌≡◌, ◌+◌, ◌*◌, ◌/◌, ◌<◌, ◌++◌, length, take, drop, sym, ap, ◌∙◌, arith}
use Rattle.std.proofs.lemmas.List.{take-append-drop}
use Rattle.hll_kernels.specs.Packed.{mark_nibbles}
use Rattle.hll_kernels.proofs.Blocks.{take_block}
use Rattle.hll_kernels.proofs.Marks.{mark_nibbles-append}
use Rattle.hll_kernels.proofs.nibbles.count_mark_nibbles.Goals as goal

pub loop-block-preserved : goal.loop-block-preserved
loop-block-preserved c =
    let B = c.args.bytes.now in
    let i = c.loop-block.block-index in
    let inside : i < length B / 64 = omega (arith, c.loop-block-test.true, c.as_chunks.ensures.front_len) in
    (λ j. c.loop-block.invariant j + (c.from-count.ensures ∙ c.mark_nibbles_in.ensures.count) j)
    ∙ sym (ap mark_nibbles (take_block 64 (length B / 64) B c.as_chunks.result.0.now i _ c.as_chunks.ensures.front inside) ∙ mark_nibbles-append (take (i * 64) B) _)

pub returns : goal.returns
returns c =
    let B = c.args.bytes.now in
    let i = c.loop-block.block-index in
    let rest = c.as_chunks.result.1.now in
    let e : i ≡ length B / 64 = omega (arith, c.loop-block-test.false, c.loop-block.auto.block-index-end, c.as_chunks.ensures.front_len) in
    let cut : rest ≡ drop (i * 64) B = c.as_chunks.ensures.back ∙ ap (λ n. drop (n * 64) B) (sym e) in
    (λ j. c.loop-block.invariant j + c.mark_nibbles_one_by_one.ensures j)
    ∙ sym (mark_nibbles-append (take (i * 64) B) rest)
    ∙ ap mark_nibbles (ap (λ Q. take (i * 64) B ++ Q) cut ∙ take-append-drop (i * 64) B)
