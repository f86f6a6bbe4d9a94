-- SPDX-License-Identifier: Apache-2.0
use Rattle.std.proofs.Common.{◌≡◌, ◌==◌, ◌+◌, ◌-◌, ◌/◌, ◌%◌, ◌∙◌, w8}
use Rattle.std.specs.Prelude.{if◌then◌else◌}
use Rattle.std.specs.Simd.Lanes.{zip2}
use Rattle.std.proofs.lemmas.Simd.{below_from_Fits}
use Rattle.hll_kernels.proofs.Lowering.{lowered_lanes, nibbles_above_zero}
use Rattle.hll_kernels.proofs.nibbles.lowered_lanes.Goals as goal
use mathlib.Core.List.{map}

pub returns : goal.returns
returns c =
    let xs = c.args.bytes in
    let l : c.low_steps.result ≡ map (λ b. if b % 16 == 15 then 0 else 1) xs = c.low_steps.ensures in
    let h : c.high_steps.result ≡ map (λ b. if b / 16 == 15 then 0 else 16) xs = c.high_steps.ensures in
    (λ i. zip2 (λ a b. (a + (256 - b)) % 256) (zip2 (λ a b. (a + (256 - b)) % 256) xs (l i)) (h i))
    ∙ lowered_lanes xs (below_from_Fits w8 _ c.fits-bytes.1) (nibbles_above_zero xs c.requires)
