-- SPDX-License-Identifier: Apache-2.0
-- The stage of an image says whether its sketch has coupons.
use Rattle.std.proofs.Common.{◌≡◌, ℕ, ◌<◌, false, List, take, drop, sym, ap, ◌∙◌, arith}
use Rattle.std.proofs.lemmas.List.{take-append-drop}
use Rattle.hll_sketch.specs.Image.{stage_bits, HasHeader, IsReadAs, list, set, hll8, hll6, hll4}
use Rattle.hll_sketch.specs.Value.{Sketch, in_registers}
use Rattle.hll_sketch.proofs.Images.{same_stage}

pub coupons_by_stage : (b : List ℕ) (x : Sketch) → IsReadAs b x → stage_bits b < 2 → in_registers x.content ≡ false
coupons_by_stage b x read low = elim read.image [
  | list h is ↦ ap (λ (y : Sketch). in_registers y.content) is
  | set h is ↦ ap (λ (y : Sketch). in_registers y.content) is
  | hll8 h is ↦ absurd (omega (arith, low, stage h.header))
  | hll6 h is ↦ absurd (omega (arith, low, stage h.header))
  | hll4 h is ↦ absurd (omega (arith, low, stage h.header))
]
  where
    stage : HasHeader (take read.size b) 2 → stage_bits b ≡ 2
    stage has = sym (same_stage (take read.size b) (drop read.size b) b (take-append-drop read.size b) has.whole) ∙ has.stage_is
