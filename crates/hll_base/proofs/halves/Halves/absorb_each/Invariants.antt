-- SPDX-License-Identifier: Apache-2.0
use Rattle.std.proofs.Common.{◌≡◌, take, fold}
use Rattle.hll_base.specs.Hash.{after_block}
use Rattle.hll_base.proofs.halves.Halves.absorb_each.Given as goal

-- the blocks so far are absorbed
abbrev pub invariant-loop-block : goal.invariant-loop-block
invariant-loop-block l = l.self ≡ fold after_block l.initial.self (take l.block-index l.blocks)
