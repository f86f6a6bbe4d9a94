-- SPDX-License-Identifier: Apache-2.0
use Rattle.std.proofs.Common.{sym, subst}
use Rattle.hll_coupons.specs.Table.{coupons_of}
use Rattle.hll_sketch.specs.Layout.{sketch_of}
use Rattle.hll_sketch.specs.Union.{IsGadget}
use Rattle.hll_sketch.specs.Value.{coupons}
use Rattle.hll_sketch.proofs.Gadgets.{gadget_of_content}
use Rattle.hll_sketch.proofs.Keeping.{either_way}
use Rattle.hll_sketch.proofs.union.HllUnion.merge_table.Goals as goal

pub invariant_of-self : goal.invariant_of-self
invariant_of-self g c =
    let m = c.self.inside.lg_max_k in (
      c.self.invariant.0,
      either_way c.merge_coupons.result _ _ _ c.merge_coupons.ensures.ok c.merge_coupons.ensures.unchanged
          (λ merged. subst (IsGadget m) (sym merged)
          (gadget_of_content m (sketch_of c.self.inside.gadget) (sketch_of c.args.sketch.now) (coupons (coupons_of c.args.table.now) c.args.table.now.lg_size) c.requires.table c.requires.some
          c.self.invariant.1 c.value_is_legal.ensures c.requires.other))
          (λ same. subst (λ y. IsGadget m (sketch_of y)) (sym same) c.self.invariant.1),
    )
