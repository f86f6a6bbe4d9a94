-- SPDX-License-Identifier: Apache-2.0
use Rattle.std.proofs.Common.{◌∙◌, arith}
use Rattle.hll_sketch.proofs.FoldedInPlace.{first_block, block_there, next_block, all_blocks}
use Rattle.hll_sketch.proofs.max_registers.max_blocks.Goals as goal

pub loop-block-init : goal.loop-block-init
loop-block-init c = first_block c.args.front.now c.args.after.now c.args.lg_k c.args.to c.requires.most c.requires.within c.requires.size c.requires.all

pub slice_bounds-max_into-end : goal.slice_bounds-max_into-end
slice_bounds-max_into-end c =
    block_there c.args.front.now c.args.after.now c.args.lg_k c.args.to c.requires.most c.requires.within c.requires.size c.requires.all c.loop-block.block
    (omega (arith, c.loop-block-test.true, c.two_to-block-end.ensures))

pub loop-block-preserved : goal.loop-block-preserved
loop-block-preserved c =
    c.max_into.ensures.joined
    ∙ next_block c.args.front.now c.args.after.now c.args.lg_k c.args.to c.requires.most c.requires.within c.requires.size c.requires.all c.loop-block.block
    (omega (arith, c.loop-block-test.true, c.two_to-block-end.ensures)) c.loop-block.front c.loop-block.invariant

pub returns : goal.returns
returns c =
    all_blocks c.args.front.now c.args.after.now c.args.lg_k c.args.to c.requires.most c.requires.within c.requires.size c.requires.all c.loop-block.block c.loop-block.front
    (omega (arith, c.loop-block-test.false, c.two_to-block-end.ensures)) c.loop-block.invariant
