-- SPDX-License-Identifier: Apache-2.0
use Rattle.std.proofs.Common.{◌≡◌, ◌/◌, ◌%◌, length, sym, ap, ◌∙◌}
use Rattle.std.specs.Prelude.{◌&&◌}
use Rattle.std.proofs.lemmas.List.{length-map}
use Rattle.hll_kernels.proofs.Bounds.{all_under, lanes_under}
use Rattle.hll_kernels.proofs.nibbles.greater_nibbles.Goals as goal

pub returns : goal.returns
returns c bound =
    let B = c.args.block.now in
    let long : length c.low_nibbles-low.result ≡ length c.high_nibbles-high.result =
    ap length c.low_nibbles-low.ensures ∙ length-map B (λ b. b % 16) ∙ sym (length-map B (λ b. b / 16)) ∙ sym (ap length c.high_nibbles-high.ensures) in
    lanes_under bound c.low_nibbles-low.result c.high_nibbles-high.result long ∙ (λ i. all_under bound (c.low_nibbles-low.ensures i) && all_under bound (c.high_nibbles-high.ensures i))
