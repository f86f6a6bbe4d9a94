-- SPDX-License-Identifier: Apache-2.0
use Rattle.std.proofs.Common.{◌≡◌, ◌<◌, ◌/◌, ◌*◌, ◌==◌, ◌∙◌, ap, sym, arith, length, take, true}
use Rattle.std.specs.List.{list_all}
use Rattle.hll_kernels.proofs.ZeroTests.{all_zero-not, all_zero-more, all_zero-rest}
use Rattle.hll_kernels.proofs.kernels.all_zero.Goals as goal

pub returns-then-nonzeros_in-ne0 : goal.returns-then-nonzeros_in-ne0
returns-then-nonzeros_in-ne0 c =
    let inside : c.loop-block.block-index < length c.args.bytes.now / 64 = omega (arith, c.loop-block-test.true, c.as_chunks.ensures.front_len) in
    all_zero-not 64 (length c.args.bytes.now / 64) c.args.bytes.now c.as_chunks.result.0.now c.loop-block.block-index _ c.as_chunks.ensures.front inside c.loop-block.invariant
    (λ e. c.if-nonzeros_in-ne0.true (c.nonzeros_in.ensures ∙ e))

pub loop-block-preserved : goal.loop-block-preserved
loop-block-preserved c =
    let inside : c.loop-block.block-index < length c.args.bytes.now / 64 = omega (arith, c.loop-block-test.true, c.as_chunks.ensures.front_len) in
    all_zero-more 64 (length c.args.bytes.now / 64) c.args.bytes.now c.as_chunks.result.0.now c.loop-block.block-index _ c.as_chunks.ensures.front inside c.loop-block.invariant
    (sym c.nonzeros_in.ensures ∙ c.if-nonzeros_in-ne0.false)

pub returns : goal.returns
returns c =
    let p : c.loop-block.block-index ≡ length c.args.bytes.now / 64 = omega (arith, c.loop-block-test.false, c.loop-block.auto.block-index-end, c.as_chunks.ensures.front_len) in
    let t : list_all (λ b. b == 0) (take (length c.args.bytes.now / 64 * 64) c.args.bytes.now) ≡ true = ap (λ n. list_all (λ b. b == 0) (take (n * 64) c.args.bytes.now)) (sym p) ∙ c.loop-block.invariant in
    c.all_zero_one_by_one.ensures ∙ ap (list_all (λ b. b == 0)) c.as_chunks.ensures.back ∙ all_zero-rest _ c.args.bytes.now t
