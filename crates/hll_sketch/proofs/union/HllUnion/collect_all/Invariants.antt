-- SPDX-License-Identifier: Apache-2.0
use Rattle.std.proofs.Common.{◌≡◌, All, map, take}
use Rattle.hll_sketch.specs.Collected.{with_coupons}
use Rattle.hll_sketch.specs.Layout.{sketch_of}
use Rattle.hll_sketch.specs.Merging.{merge_all}
use Rattle.hll_sketch.specs.Union.{gadget_of}
use Rattle.hll_sketch.specs.Value.{IsLegal}
use Rattle.hll_sketch.proofs.union.HllUnion.collect_all.Given as goal

-- the sketches so far are counted and legal, and their coupons are collected
abbrev pub invariant-loop-sketch : goal.invariant-loop-sketch
invariant-loop-sketch g l = record {
  count : l.count ≡ l.sketch-index;
  merged : with_coupons (gadget_of l.self) l.batch ≡ merge_all l.self.lg_max_k (gadget_of l.self) (map sketch_of (take l.sketch-index l.sketches));
  legal : All (λ x. IsLegal (sketch_of x)) (take l.sketch-index l.sketches);
}
