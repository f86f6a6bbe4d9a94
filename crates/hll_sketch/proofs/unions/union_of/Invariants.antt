-- SPDX-License-Identifier: Apache-2.0
use Rattle.std.proofs.Common.{◌≡◌, All, map, length}
use Rattle.hll_sketch.specs.Layout.{sketch_of}
use Rattle.hll_sketch.specs.Merging.{merge_all, empty_union}
use Rattle.hll_sketch.specs.Union.{gadget_of}
use Rattle.hll_sketch.specs.Value.{IsLegal}
use Rattle.hll_sketch.proofs.unions.union_of.Given as goal

-- merging the sketches that are left gives the union, and they are legal only if all are
abbrev pub invariant-loop-first : goal.invariant-loop-first
invariant-loop-first g l = record {
  bound : l.union.lg_max_k ≡ l.lg_max_k;
  merged : merge_all l.lg_max_k (gadget_of l.union) (map sketch_of l.left) ≡ merge_all l.lg_max_k (empty_union l.lg_max_k) (map sketch_of l.sketches);
  legal : All (λ x. IsLegal (sketch_of x)) l.left → All (λ x. IsLegal (sketch_of x)) l.sketches;
}

abbrev pub decreases-loop-first : goal.decreases-loop-first
decreases-loop-first g l = length l.left
