-- SPDX-License-Identifier: Apache-2.0
use Rattle.std.proofs.Common.{◌≡◌, ◌/◌, ◌*◌, ◌++◌, ℕ, List, length, take, ap, ◌∙◌, arith}
use Rattle.std.proofs.Math.Seq.{take-append_seam}
use Rattle.hll_kernels.specs.Packed.{fields}
use Rattle.hll_kernels.proofs.SixBitLanes.{length-fields, join_zeros}
use Rattle.hll_kernels.proofs.groups.unpacked.Goals as goal

-- a prefix of a list
front : (k : ℕ) (W rest : List ℕ) → k ≡ length W → take k (W ++ rest) ≡ W
front k W rest e = ap (λ n. take n (W ++ rest)) e ∙ take-append_seam W rest

pub returns : goal.returns
returns c =
    let B : List ℕ = c.args.bytes.now in
    let k : ℕ = length B / 3 * 4 in
    let W : List ℕ = c.max_with_fields.new.values in
    let long : length (fields B) ≡ k = omega (arith, length-fields (length B / 3) B (omega (arith, c.requires.whole))) in
    let e : W ≡ fields B = c.max_with_fields.ensures ∙ join_zeros 64 k (fields B) (omega (arith, c.requires.few)) long in
    front k W _ (omega (arith, ap length e, long)) ∙ e
