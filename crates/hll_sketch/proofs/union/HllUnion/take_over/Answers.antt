-- SPDX-License-Identifier: Apache-2.0
use Rattle.std.proofs.Common.{◌≡◌, ◌≤◌, true, refl, sym, subst, ◌∙◌}
use Rattle.hll_sketch.specs.Layout.{SketchLayout, sketch_of}
use Rattle.hll_sketch.specs.Merging.{merge_registers}
use Rattle.hll_sketch.specs.Union.{UnionLayout, IsGadget, gadget_of}
use Rattle.hll_sketch.specs.Value.{is_empty}
use Rattle.hll_sketch.proofs.Gadgets.{gadget_with_registers}
use Rattle.hll_sketch.proofs.Merges.{whole_as}
use Rattle.hll_sketch.proofs.union.HllUnion.take_over.Goals as goal

pub invariant_of-self : goal.invariant_of-self
invariant_of-self g c =
    let m = c.self.inside.lg_max_k in
    let a = c.args.array in
    let stored = c.lg_k.ensures.legal in
    let before : SketchLayout = c.self.inside.gadget in
    let none : is_empty (sketch_of before) ≡ true = subst (λ (u : UnionLayout). is_empty (gadget_of u) ≡ true) (sym c.self.view_is) c.requires.none in
    let within : a.lg_k ≤ m = subst (λ (u : UnionLayout). a.lg_k ≤ u.lg_max_k) (sym c.self.view_is) c.requires.within in (
      c.self.invariant.0,
      subst (IsGadget m) (sym (whole_as m c.lg_k.result before a a none c.self.invariant.1 refl c.lg_k.ensures.lg_k within stored.high stored.registers.size))
          (gadget_with_registers m (sketch_of before) a.lg_k a.registers a.state _ stored.high (stored.registers, stored.state) c.requires.some c.self.invariant.1 c.value_is_legal.ensures),
    )

pub returns-clause-gadget : goal.returns-clause-gadget
returns-clause-gadget g c =
    let m = c.self.inside.lg_max_k in
    let a = c.args.array in
    let stored = c.lg_k.ensures.legal in
    let before : SketchLayout = c.self.inside.gadget in
    let none : is_empty (sketch_of before) ≡ true = subst (λ (u : UnionLayout). is_empty (gadget_of u) ≡ true) (sym c.self.view_is) c.requires.none in
    let within : a.lg_k ≤ m = subst (λ (u : UnionLayout). a.lg_k ≤ u.lg_max_k) (sym c.self.view_is) c.requires.within in
    whole_as m c.lg_k.result before a a none c.self.invariant.1 refl c.lg_k.ensures.lg_k within stored.high stored.registers.size
    ∙ (λ i. merge_registers (c.self.view_is i).lg_max_k (gadget_of (c.self.view_is i)) a.lg_k a.registers a.state)
