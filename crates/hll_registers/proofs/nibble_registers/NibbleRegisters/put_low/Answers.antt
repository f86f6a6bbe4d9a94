-- SPDX-License-Identifier: Apache-2.0
use Rattle.std.proofs.Common.{arith, ◌≡◌, ◌<◌, ◌-◌, ◌∙◌, All, eqb, cond, set, sym, ap, subst, length}
use Rattle.std.proofs.lemmas.List.{with_items_is}
use Rattle.std.specs.Vec.{with_items}
use Rattle.hll_registers.specs.FourBits.{NibbleRegisters, IsPacked, unpacked, unboxed}
use Rattle.hll_kernels.specs.Packed.{minimum, nibble_at}
use Rattle.hll_registers.proofs.FourBits.{packed_here, packed_is_of_registers}
use Rattle.hll_registers.proofs.FourBitChanges.{low_packed, registers_after}
use Rattle.hll_registers.proofs.nibble_registers.NibbleRegisters.put_low.Given.{Over}
use Rattle.hll_registers.proofs.nibble_registers.NibbleRegisters.put_low.Goals as goal

pub put_nibble-requires-clause-small : goal.put_nibble-requires-clause-small
put_nibble-requires-clause-small g c =
    let m = c.self.inside.minimum in
    let least = (packed_is_of_registers _ _ _ _ _ _ c.self.invariant.1 c.self.invariant.2).minimum_is ∙ ap (λ (x : NibbleRegisters). minimum x.registers) c.self.view_is in
    omega (arith, least, c.requires.low)

-- the bytes afterwards
bytes : (g : Over) (c : goal.After-self-2-1 g) → (with_items c.self.inside.nibbles c.put_nibble.new.bytes).items ≡ c.put_nibble.new.bytes
bytes g c = with_items_is c.self.inside.nibbles c.put_nibble.new.bytes (c.put_nibble.ensures.len ∙ c.deref_mut.ensures.len)

packed : (g : Over) (c : goal.After-self-2-1 g) → IsPacked c.self.inside.lg_k c.self.inside.minimum c.args.left (with_items c.self.inside.nibbles c.put_nibble.new.bytes).items (unboxed c.self.inside.exceptions)
    (set (unpacked c.self.inside.lg_k c.self.inside.minimum c.self.inside.nibbles.items (unboxed c.self.inside.exceptions)) c.args.slot c.args.value)
packed g c =
    subst (λ bs. IsPacked c.self.inside.lg_k c.self.inside.minimum c.args.left bs (unboxed c.self.inside.exceptions)
    (set (unpacked c.self.inside.lg_k c.self.inside.minimum c.self.inside.nibbles.items (unboxed c.self.inside.exceptions)) c.args.slot c.args.value)) (sym (bytes g c))
    (low_packed _ _ _ _ _ c.self.invariant.1 c.self.invariant.2 c.args.self.now c.self.view_is c.args.slot c.args.value (record { within = c.requires.within; more = c.requires.more; most = c.requires.most })
    c.args.left c.put_nibble.new.bytes (record { left_is = c.requires.left; some = c.requires.some }) c.requires.low (c.put_nibble.ensures.len ∙ ap length c.deref_mut.ensures.value)
    (c.put_nibble.ensures.fits (subst (All (λ b. b < 256)) (sym c.deref_mut.ensures.value) c.self.invariant.2.fits))
    (λ q. c.put_nibble.ensures.nibbles q ∙ ap (λ bs. cond (eqb q c.args.slot) (c.args.value - c.self.inside.minimum) (nibble_at bs q)) c.deref_mut.ensures.value))

pub invariant_of-self : goal.invariant_of-self
invariant_of-self g c = (c.self.invariant.0, c.self.invariant.1, packed_here _ _ _ _ _ _ c.self.invariant.1 (packed g c))

pub returns-clause-registers : goal.returns-clause-registers
returns-clause-registers g c =
    registers_after _ _ _ _ _ c.self.invariant.1 c.self.invariant.2 c.args.self.now c.self.view_is c.args.slot c.args.value (record { within = c.requires.within; more = c.requires.more; most = c.requires.most })
    _ c.args.left _ _ (packed g c)
