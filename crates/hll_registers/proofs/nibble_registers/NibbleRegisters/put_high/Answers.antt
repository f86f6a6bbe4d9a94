-- SPDX-License-Identifier: Apache-2.0
use Rattle.std.proofs.Common.{◌≡◌, ◌<◌, ◌∙◌, All, eqb, cond, set, sym, ap, subst, length}
use Rattle.std.proofs.lemmas.Bool.{true≢false}
use Rattle.std.proofs.lemmas.List.{with_items_is}
use Rattle.std.specs.Vec.{with_items}
use Rattle.hll_base.proofs.Errors.{OnErr-of}
use Rattle.hll_registers.specs.FourBits.{IsPacked, unpacked, unboxed}
use Rattle.hll_kernels.specs.Packed.{nibble_at}
use Rattle.hll_registers.proofs.FourBits.{packed_here, none_of_refused}
use Rattle.hll_registers.proofs.FourBitChanges.{high_moves, high_packed, registers_after}
use Rattle.hll_registers.proofs.nibble_registers.NibbleRegisters.put_high.Given.{Over}
use Rattle.hll_registers.proofs.nibble_registers.NibbleRegisters.put_high.Goals as goal

-- the bytes afterwards
bytes : (g : Over) (c : goal.After-self-2-1 g) → (with_items c.self.inside.nibbles c.put_nibble.new.bytes).items ≡ c.put_nibble.new.bytes
bytes g c = with_items_is c.self.inside.nibbles c.put_nibble.new.bytes (c.put_nibble.ensures.len ∙ c.deref_mut.ensures.len)

packed : (g : Over) (c : goal.After-self-2-1 g) → IsPacked c.self.inside.lg_k c.self.inside.minimum c.args.left (with_items c.self.inside.nibbles c.put_nibble.new.bytes).items (unboxed c.put_exception.new.map)
    (set (unpacked c.self.inside.lg_k c.self.inside.minimum c.self.inside.nibbles.items (unboxed c.self.inside.exceptions)) c.args.slot c.args.value)
packed g c =
    subst (λ bs. IsPacked c.self.inside.lg_k c.self.inside.minimum c.args.left bs (unboxed c.put_exception.new.map)
    (set (unpacked c.self.inside.lg_k c.self.inside.minimum c.self.inside.nibbles.items (unboxed c.self.inside.exceptions)) c.args.slot c.args.value)) (sym (bytes g c))
    (high_packed _ _ _ _ _ c.self.invariant.1 c.self.invariant.2 c.args.self.now c.self.view_is c.args.slot c.args.value (record { within = c.requires.within; more = c.requires.more; most = c.requires.most })
    c.args.left c.put_nibble.new.bytes (unboxed c.put_exception.new.map) (record { left_is = c.requires.left; some = c.requires.some }) c.requires.high (c.put_nibble.ensures.len ∙ ap length c.deref_mut.ensures.value)
    (c.put_nibble.ensures.fits (subst (All (λ b. b < 256)) (sym c.deref_mut.ensures.value) c.self.invariant.2.fits))
    (λ q. c.put_nibble.ensures.nibbles q ∙ ap (λ bs. cond (eqb q c.args.slot) 15 (nibble_at bs q)) c.deref_mut.ensures.value)
    c.in_ok-put_exception.ensures.map c.in_ok-put_exception.ensures.values)

pub invariant_of-self-2 : goal.invariant_of-self-2
invariant_of-self-2 g c = (c.self.invariant.0, c.self.invariant.1, packed_here _ _ _ _ _ _ c.self.invariant.1 (packed g c))

pub returns-clause-ok : goal.returns-clause-ok
returns-clause-ok g c =
    registers_after _ _ _ _ _ c.self.invariant.1 c.self.invariant.2 c.args.self.now c.self.view_is c.args.slot c.args.value (record { within = c.requires.within; more = c.requires.more; most = c.requires.most })
    _ c.args.left _ _ (packed g c)

pub returns-in_err-put_exception-clause-needed : goal.returns-in_err-put_exception-clause-needed
returns-in_err-put_exception-clause-needed g c =
    OnErr-of c.from_residual.result _
    (high_moves _ _ _ _ _ c.self.invariant.1 c.self.invariant.2 c.args.self.now c.self.view_is c.args.slot c.args.value (record { within = c.requires.within; more = c.requires.more; most = c.requires.most })
    c.args.left (record { left_is = c.requires.left; some = c.requires.some }) c.requires.high (none_of_refused _ (λ some. true≢false (sym (c.in_err-put_exception.ensures.never some)))))
