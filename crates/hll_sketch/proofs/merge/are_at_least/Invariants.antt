-- SPDX-License-Identifier: Apache-2.0
use Rattle.std.proofs.Common.{◌≤◌, All, take}
use Rattle.hll_sketch.specs.Layout.{SketchLayout}
use Rattle.hll_sketch.proofs.merge.are_at_least.Given as goal

-- the sketches so far are at this lg_k or a greater one
abbrev pub invariant-loop-sketch : goal.invariant-loop-sketch
invariant-loop-sketch g l = All (λ (x : SketchLayout). l.lg_k ≤ x.lg_k) (take l.sketch-index l.sketches)
