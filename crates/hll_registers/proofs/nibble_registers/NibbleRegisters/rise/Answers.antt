-- SPDX-License-Identifier: Apache-2.0
use Rattle.std.proofs.Common.{arith, ◌≡◌, ◌∙◌, set, sym, ap, subst, length}
use Rattle.std.proofs.lemmas.List.{with_items_is}
use Rattle.std.specs.Vec.{with_items}
use Rattle.hll_base.proofs.Errors.{OnErr-of}
use Rattle.hll_kernels.specs.Packed.{zero_nibbles}
use Rattle.hll_registers.specs.FourBits.{exception_in, unpacked, IsMapFor, IsPacked, unboxed}
use Rattle.hll_registers.proofs.FourBits.{packed_here}
use Rattle.hll_registers.proofs.FourBitChanges.{few_bytes, none_left, registers_after, rise_above, rise_from, rise_high, rise_moves, rise_none, rise_packed, rise_value}
use Rattle.hll_registers.proofs.nibble_registers.NibbleRegisters.rise.Given.{Over}
use Rattle.hll_registers.proofs.nibble_registers.NibbleRegisters.rise.Goals as goal

pub minimum_with-requires-clause-none : goal.minimum_with-requires-clause-none
minimum_with-requires-clause-none g c = none_left _ _ _ _ _ c.self.invariant.1 c.self.invariant.2 c.args.self.now c.self.view_is c.args.slot c.args.value (record { within = c.requires.within; more = c.requires.more; most = c.requires.most }) c.requires.at c.requires.only

pub exceptions_after-requires-clause-minimum : goal.exceptions_after-requires-clause-minimum
exceptions_after-requires-clause-minimum g c = omega (arith, c.requires.most, rise_value _ _ _ _ _ c.self.invariant.1 c.self.invariant.2 c.args.self.now c.self.view_is c.args.slot c.args.value c.minimum_with.result (record { within = c.requires.within; more = c.requires.more; most = c.requires.most }) (record { at = c.requires.at; least = c.minimum_with.ensures }))

pub exceptions_after-requires-clause-none : goal.exceptions_after-requires-clause-none
exceptions_after-requires-clause-none g c = rise_none _ _ _ _ _ c.self.invariant.1 c.self.invariant.2 c.args.self.now c.self.view_is c.args.slot c.args.value c.minimum_with.result (record { within = c.requires.within; more = c.requires.more; most = c.requires.most }) (record { at = c.requires.at; least = c.minimum_with.ensures })

pub returns-in_err-above-clause-needed : goal.returns-in_err-above-clause-needed
returns-in_err-above-clause-needed g c = OnErr-of c.from_residual.result _ (rise_moves _ _ _ _ _ c.self.invariant.1 c.self.invariant.2 c.args.self.now c.self.view_is c.args.slot c.args.value c.minimum_with.result (record { within = c.requires.within; more = c.requires.more; most = c.requires.most }) (record { at = c.requires.at; least = c.minimum_with.ensures }) c.in_err-above.ensures.moved c.in_err-above.ensures.needed)

pub repack-requires-clause-few : goal.repack-requires-clause-few
repack-requires-clause-few g c = omega (arith, ap length c.deref_mut.ensures.value, few_bytes _ _ _ _ _ c.self.invariant.1 c.self.invariant.2 c.args.self.now c.self.view_is c.args.slot c.args.value (record { within = c.requires.within; more = c.requires.more; most = c.requires.most }))

pub repack-requires-clause-from : goal.repack-requires-clause-from
repack-requires-clause-from g c = rise_from _ _ _ _ _ c.self.invariant.1 c.self.invariant.2 c.args.self.now c.self.view_is c.args.slot c.args.value c.minimum_with.result (record { within = c.requires.within; more = c.requires.more; most = c.requires.most }) (record { at = c.requires.at; least = c.minimum_with.ensures })

pub repack-requires-clause-to : goal.repack-requires-clause-to
repack-requires-clause-to g c = rise_value _ _ _ _ _ c.self.invariant.1 c.self.invariant.2 c.args.self.now c.self.view_is c.args.slot c.args.value c.minimum_with.result (record { within = c.requires.within; more = c.requires.more; most = c.requires.most }) (record { at = c.requires.at; least = c.minimum_with.ensures })

pub repack-requires-clause-high : goal.repack-requires-clause-high
repack-requires-clause-high g c = rise_high _ _ _ _ _ c.self.invariant.1 c.self.invariant.2 c.args.self.now c.self.view_is c.args.slot c.args.value c.minimum_with.result (record { within = c.requires.within; more = c.requires.more; most = c.requires.most }) (record { at = c.requires.at; least = c.minimum_with.ensures }) c.deref_mut.result.now c.deref_mut.ensures.value

pub repack-requires-clause-above : goal.repack-requires-clause-above
repack-requires-clause-above g c = rise_above _ _ _ _ _ c.self.invariant.1 c.self.invariant.2 c.args.self.now c.self.view_is c.args.slot c.args.value c.minimum_with.result (record { within = c.requires.within; more = c.requires.more; most = c.requires.most }) (record { at = c.requires.at; least = c.minimum_with.ensures })

pub count_zero_nibbles-self-inside-requires : goal.count_zero_nibbles-self-inside-requires
count_zero_nibbles-self-inside-requires g c =
    let is = with_items_is c.self.inside.nibbles c.repack.new.bytes (c.repack.ensures.len ∙ c.deref_mut.ensures.len) in
    omega (arith, ap length c.deref.ensures.value, ap length is, c.repack.ensures.len, ap length c.deref_mut.ensures.value, few_bytes _ _ _ _ _ c.self.invariant.1 c.self.invariant.2 c.args.self.now c.self.view_is c.args.slot c.args.value (record { within = c.requires.within; more = c.requires.more; most = c.requires.most }))

packed : (g : Over) (c : goal.After-self-3-1 g) → IsPacked c.self.inside.lg_k c.minimum_with.result c.count_zero_nibbles-self-inside.result (with_items c.self.inside.nibbles c.repack.new.bytes).items (unboxed c.replace_by.new.map)
    (set (unpacked c.self.inside.lg_k c.self.inside.minimum c.self.inside.nibbles.items (unboxed c.self.inside.exceptions)) c.args.slot c.args.value)
packed g c =
    let is = with_items_is c.self.inside.nibbles c.repack.new.bytes (c.repack.ensures.len ∙ c.deref_mut.ensures.len) in
    let zeros : c.count_zero_nibbles-self-inside.result ≡ zero_nibbles c.repack.new.bytes = c.count_zero_nibbles-self-inside.ensures ∙ ap zero_nibbles (c.deref.ensures.value ∙ is) in
    subst (λ bs. IsPacked c.self.inside.lg_k c.minimum_with.result c.count_zero_nibbles-self-inside.result bs (unboxed c.replace_by.new.map)
    (set (unpacked c.self.inside.lg_k c.self.inside.minimum c.self.inside.nibbles.items (unboxed c.self.inside.exceptions)) c.args.slot c.args.value)) (sym is)
    (rise_packed _ _ _ _ _ c.self.invariant.1 c.self.invariant.2 c.args.self.now c.self.view_is c.args.slot c.args.value c.minimum_with.result (record { within = c.requires.within; more = c.requires.more; most = c.requires.most }) (record { at = c.requires.at; least = c.minimum_with.ensures }) c.count_zero_nibbles-self-inside.result _ c.repack.new.bytes c.deref_mut.ensures.value c.repack.ensures.len c.repack.ensures.fits c.repack.ensures.nibbles zeros
    (unboxed c.replace_by.new.map) (subst (λ o. IsMapFor c.self.inside.lg_k (unboxed o)) (sym c.replace_by.ensures) c.in_ok-above.ensures.map) (λ q. ap (λ o. exception_in (unboxed o) q) c.replace_by.ensures ∙ c.in_ok-above.ensures.values q))

pub invariant_of-self : goal.invariant_of-self
invariant_of-self g c = (c.self.invariant.0, c.self.invariant.1, packed_here _ _ _ _ _ _ c.self.invariant.1 (packed g c))

pub returns-clause-ok : goal.returns-clause-ok
returns-clause-ok g c = registers_after _ _ _ _ _ c.self.invariant.1 c.self.invariant.2 c.args.self.now c.self.view_is c.args.slot c.args.value (record { within = c.requires.within; more = c.requires.more; most = c.requires.most }) _ c.count_zero_nibbles-self-inside.result _ _ (packed g c)
