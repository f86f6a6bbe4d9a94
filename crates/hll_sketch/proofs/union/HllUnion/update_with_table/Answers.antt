-- SPDX-License-Identifier: Apache-2.0
use Rattle.std.proofs.Common.{ap, sym, subst, ◌∙◌}
use Rattle.std.specs.FinSet.{len, len-empty}
use Rattle.std.specs.Ordering.{nat_cmp}
use Rattle.hll_coupons.specs.Table.{coupons_in, coupons_of}
use Rattle.hll_sketch.specs.Layout.{sketch_of}
use Rattle.hll_sketch.specs.Union.{IsGadget}
use Rattle.hll_sketch.proofs.Gadgets.{gadget_with}
use Rattle.hll_sketch.proofs.Keeping.{either_way}
use Rattle.hll_sketch.proofs.LegalImages.{ArePairs-set_of}
use Rattle.hll_sketch.proofs.union.HllUnion.update_with_table.Goals as goal

pub invariant_of-self : goal.invariant_of-self
invariant_of-self g c = (
  c.self.invariant.0,
  either_way c.add_table.result _ _ _ c.add_table.ensures.ok c.add_table.ensures.unchanged
      (λ added. subst (IsGadget c.self.inside.lg_max_k) (sym added)
      (gadget_with c.self.inside.lg_max_k (sketch_of c.self.inside.gadget) (coupons_of c.args.table.now) c.self.invariant.1 c.value_is_legal.ensures
      (ArePairs-set_of (coupons_in c.args.table.now.buckets) c.table_is_legal.ensures.table.valued) (λ none. c.requires (ap len none ∙ len-empty nat_cmp))))
      (λ same. subst (λ g. IsGadget c.self.inside.lg_max_k (sketch_of g)) (sym same) c.self.invariant.1),
)
