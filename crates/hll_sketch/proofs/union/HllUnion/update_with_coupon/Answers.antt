-- SPDX-License-Identifier: Apache-2.0
use Rattle.std.proofs.Common.{sym, subst, arith}
use Rattle.hll_sketch.specs.Layout.{sketch_of}
use Rattle.hll_sketch.specs.Union.{IsGadget}
use Rattle.hll_sketch.proofs.Gadgets.{gadget_with_coupon}
use Rattle.hll_sketch.proofs.Keeping.{either_way}
use Rattle.hll_sketch.proofs.union.HllUnion.update_with_coupon.Goals as goal

pub invariant_of-self : goal.invariant_of-self
invariant_of-self g c = (
  c.self.invariant.0,
  either_way c.update_with_coupon.result _ _ _ c.update_with_coupon.ensures.ok c.update_with_coupon.ensures.unchanged
      (λ added. gadget_with_coupon c.self.inside.lg_max_k (sketch_of c.self.inside.gadget) (sketch_of c.update_with_coupon.new.self) c.args.coupon c.self.invariant.1 c.value_is_legal.ensures c.requires
      (omega (arith, c.value-value.ensures.value, c.value-value.ensures.small)) added)
      (λ same. subst (λ g. IsGadget c.self.inside.lg_max_k (sketch_of g)) (sym same) c.self.invariant.1),
)
