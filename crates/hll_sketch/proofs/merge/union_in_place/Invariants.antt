-- SPDX-License-Identifier: Apache-2.0
use Rattle.std.proofs.Common.{◌≡◌, ◌∷◌, true, map, take}
use Rattle.hll_sketch.specs.Layout.{content_in, sketch_of}
use Rattle.hll_sketch.specs.Merging.{merge_all, empty_union}
use Rattle.hll_sketch.specs.Union.{IsGadget}
use Rattle.hll_sketch.specs.Value.{in_registers}
use Rattle.hll_sketch.proofs.merge.union_in_place.Given as goal

-- the sketches so far are merged into registers at the lg_k of the first
abbrev pub invariant-loop-sketch : goal.invariant-loop-sketch
invariant-loop-sketch g l = record {
  merged : sketch_of l.first ≡ merge_all l.lg_max_k (empty_union l.lg_max_k) (sketch_of l.fn.first ∷ map sketch_of (take l.sketch-index l.others));
  gadget : IsGadget l.lg_max_k (sketch_of l.first);
  inside : in_registers (content_in l.first.layout) ≡ true;
  lg_k : l.first.lg_k ≡ l.fn.first.lg_k;
}
