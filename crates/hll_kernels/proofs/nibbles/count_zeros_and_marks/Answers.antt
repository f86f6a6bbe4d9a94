-- SPDX-License-Identifier: Apache-2.0
use Rattle.std.proofs.Common.{◌≡◌, ◌+◌, ◌*◌, ◌/◌, ◌<◌, ◌++◌, length, take, drop, sym, ap, ◌∙◌, arith}
use Rattle.std.proofs.lemmas.List.{take-append-drop}
use Rattle.hll_kernels.specs.Packed.{mark_nibbles, zero_nibbles}
use Rattle.hll_kernels.proofs.Blocks.{take_block}
use Rattle.hll_kernels.proofs.Lowering.{zero_nibbles-append}
use Rattle.hll_kernels.proofs.Marks.{mark_nibbles-append}
use Rattle.hll_kernels.proofs.nibbles.count_zeros_and_marks.Goals as goal

pub loop-block-preserved : goal.loop-block-preserved
loop-block-preserved c =
    let B = c.args.bytes.now in
    let i = c.loop-block.block-index in
    let inside : i < length B / 64 = omega (arith, c.loop-block-test.true, c.as_chunks.ensures.front_len) in
    let more = take_block 64 (length B / 64) B c.as_chunks.result.0.now i _ c.as_chunks.ensures.front inside in
    record {
      zeros =
          (λ j. c.loop-block.invariant.zeros j + (c.from-zeros.ensures ∙ c.zero_nibbles_in.ensures.count) j)
          ∙ sym (ap zero_nibbles more ∙ zero_nibbles-append (take (i * 64) B) _);
      marks =
          (λ j. c.loop-block.invariant.marks j + (c.from-marks.ensures ∙ c.mark_nibbles_in.ensures.count) j)
          ∙ sym (ap mark_nibbles more ∙ mark_nibbles-append (take (i * 64) B) _);
    }

pub returns : goal.returns
returns c =
    let B = c.args.bytes.now in
    let i = c.loop-block.block-index in
    let rest = c.as_chunks.result.1.now in
    let e : i ≡ length B / 64 = omega (arith, c.loop-block-test.false, c.loop-block.auto.block-index-end, c.as_chunks.ensures.front_len) in
    let cut : rest ≡ drop (i * 64) B = c.as_chunks.ensures.back ∙ ap (λ n. drop (n * 64) B) (sym e) in
    let whole : take (i * 64) B ++ rest ≡ B = ap (λ Q. take (i * 64) B ++ Q) cut ∙ take-append-drop (i * 64) B in
    record {
      zeros = (λ j. c.loop-block.invariant.zeros j + c.zero_nibbles_one_by_one.ensures j) ∙ sym (zero_nibbles-append (take (i * 64) B) rest) ∙ ap zero_nibbles whole;
      marks = (λ j. c.loop-block.invariant.marks j + c.mark_nibbles_one_by_one.ensures j) ∙ sym (mark_nibbles-append (take (i * 64) B) rest) ∙ ap mark_nibbles whole;
    }
