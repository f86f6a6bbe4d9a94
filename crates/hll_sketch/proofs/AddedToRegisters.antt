-- SPDX-License-Identifier: Apache-2.0
-- 8-bit registers that are raised, as sketches.
use Rattle.std.proofs.Common.{◌≡◌, ℕ, List, None, sym, ap, ◌∙◌}
use Rattle.hll_base.specs.declared.hll_type.HllType.TheVariants.{Hll8}
use Rattle.hll_registers.specs.Store.{Stored}
use Rattle.hll_sketch.specs.Laws.{add_in_turn}
use Rattle.hll_sketch.specs.Layout.{SketchLayout, array, sketch_of}
use Rattle.hll_sketch.specs.Union.{sketch_of_registers}
use Rattle.hll_sketch.specs.Value.{registers}

-- a sketch in 8-bit registers
abbrev pub in_bytes : ℕ → Stored → SketchLayout
in_bytes k a = record { lg_k = k; layout = array Hll8 a None }

as_registers : (k : ℕ) (a : Stored) → a.lg_k ≡ k → sketch_of (in_bytes k a) ≡ sketch_of_registers a
as_registers k a same = λ i. record { lg_k = sym same i; width = Hll8; content = registers a.registers a.state }

-- registers raised by coupons, as a sketch
pub added_as : (k : ℕ) (a b : Stored) (order : List ℕ) → a.lg_k ≡ k → b.lg_k ≡ a.lg_k → sketch_of_registers b ≡ add_in_turn (sketch_of_registers a) order →
    sketch_of (in_bytes k b) ≡ add_in_turn (sketch_of (in_bytes k a)) order
added_as k a b order here there raised = as_registers k b (there ∙ here) ∙ raised ∙ ap (λ x. add_in_turn x order) (sym (as_registers k a here))
