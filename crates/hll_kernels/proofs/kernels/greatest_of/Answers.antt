-- SPDX-License-Identifier: Apache-2.0
use Rattle.std.proofs.Common.{◌≡◌, ◌/◌, [], length, get_or, sym, ap, ◌∙◌, arith}
use Rattle.std.specs.Prelude.{nat_le}
use Rattle.hll_kernels.proofs.Blocks.{length-block}
use Rattle.hll_kernels.proofs.Bounds.{block_within, whole_max}
use Rattle.hll_kernels.proofs.kernels.greatest_of.Goals as goal

pub loop-block-preserved : goal.loop-block-preserved
loop-block-preserved c bound =
    let long : length (get_or c.as_chunks.result.0.now c.loop-block.block-index []) ≡ 64 = length-block 64 _ c.args.bytes.now c.as_chunks.result.0.now c.loop-block.block-index [] c.as_chunks.ensures.front (omega arith)
    (omega (arith, c.loop-block-test.true, c.as_chunks.ensures.front_len)) in
    block_within bound 64 _ c.args.bytes.now c.as_chunks.result.0.now c.loop-block.block-index [] c.as_chunks.ensures.front (omega arith) c.loop-block.lanes (c.loop-block.auto.lanes.0 ∙ sym long) (c.loop-block.invariant bound)

pub returns : goal.returns
returns c bound =
    let e : c.loop-block.block-index ≡ length c.args.bytes.now / 64 = omega (arith, c.loop-block-test.false, c.loop-block.auto.block-index-end, c.as_chunks.ensures.front_len) in
    whole_max bound 64 _ _ c.args.bytes.now c.as_chunks.result.1.now _ _ e c.as_chunks.ensures.back (c.loop-block.invariant bound ∙ c.greatest_one_by_one.ensures bound) (c.greatest_one_by_one-2.ensures bound)
    ∙ ap (λ m. nat_le m bound) (sym c.max.ensures)
