-- SPDX-License-Identifier: Apache-2.0
use Rattle.std.proofs.Common.{◌≡◌, ◌+◌, ap, ◌∙◌, arith}
use Rattle.hll_kernels.specs.Lanes.{max_at}
use Rattle.hll_kernels.proofs.Parts.{max_more}
use Rattle.hll_kernels.proofs.nibbles.max_with_half.Goals as goal

pub returns : goal.returns
returns c =
    let at = c.args.at in
    let V = c.args.values.now in
    let P = c.nibble_lanes.result.0 in
    let Q = c.nibble_lanes.result.1 in
    let first : c.max_16.new.dst ≡ max_at at V P = c.max_16.ensures in
    let second : c.max_16-2.new.dst ≡ max_at (at + 16) c.max_16.new.dst Q = c.max_16-2.ensures in
    second ∙ ap (λ S. max_at (at + 16) S Q) first ∙ max_more at (at + 16) V P Q (omega (arith, c.nibble_lanes.ensures.len)) (omega (arith, c.requires.room)) ∙ ap (max_at at V) c.nibble_lanes.ensures.nibbles
