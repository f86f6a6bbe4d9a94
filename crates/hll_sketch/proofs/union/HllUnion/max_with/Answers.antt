-- SPDX-License-Identifier: Apache-2.0
use Rattle.std.proofs.Common.{sym, subst}
use Rattle.hll_registers.specs.State.{cleared_state}
use Rattle.hll_registers.specs.Store.{Stored}
use Rattle.hll_sketch.specs.Layout.{sketch_of}
use Rattle.hll_sketch.specs.Union.{IsGadget}
use Rattle.hll_sketch.proofs.Gadgets.{gadget_with_registers}
use Rattle.hll_sketch.proofs.Keeping.{either_way}
use Rattle.hll_sketch.proofs.union.HllUnion.max_with.Goals as goal

pub invariant_of-self : goal.invariant_of-self
invariant_of-self g c =
    let m = c.self.inside.lg_max_k in
    let x : Stored = g.R.Registers.stored c.args.source.now in
    let stored = c.lg_k-lg_k.ensures.legal in (
      c.self.invariant.0,
      either_way c.max_with.result _ _ _ c.max_with.ensures.ok c.max_with.ensures.unchanged
          (λ is. subst (IsGadget m) (sym is)
          (gadget_with_registers m (sketch_of c.self.inside.gadget) x.lg_k x.registers x.state cleared_state stored.high (stored.registers, stored.state) c.requires.some
          c.self.invariant.1 c.value_is_legal.ensures))
          (λ same. subst (λ y. IsGadget m (sketch_of y)) (sym same) c.self.invariant.1),
    )
