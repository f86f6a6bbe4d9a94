-- SPDX-License-Identifier: Apache-2.0
-- Coupons that are collected, and then added to a sketch together (docs/MODEL.md, "Merging").
use Rattle.std.specs.Prelude.{ℕ, List, [], ◌∷◌}
use Rattle.hll_coupons.specs.Pair.{set_of}
use Rattle.hll_sketch.specs.Adding.{add}
use Rattle.hll_sketch.specs.Value.{Sketch}

-- a sketch with coupons added, if there are any
abbrev pub with_coupons : Sketch → List ℕ → Sketch
with_coupons g [] = g
with_coupons g (c ∷ cs) = add g (set_of (c ∷ cs))
