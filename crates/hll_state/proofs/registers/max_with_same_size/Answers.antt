-- SPDX-License-Identifier: Apache-2.0
use Rattle.std.proofs.Common.{◌≡◌, ◌^◌, ℕ, List, length, sym, ap, subst, ◌∙◌, arith}
use Rattle.hll_base.specs.Join.{join}
use Rattle.hll_coupons.proofs.Registers.{fold_to-pairs}
use Rattle.hll_kernels.specs.Packed.{AreRegisters}
use Rattle.hll_kernels.proofs.Registers.{AreRegisters-join}
use Rattle.hll_registers.specs.FourBits.{ArePartsOf}
use Rattle.hll_registers.specs.Store.{Stored}
use Rattle.hll_state.specs.Registers.{values}
use Rattle.hll_state.proofs.registers.max_with_same_size.Goals as goal

pub returns-in-Some-clause-joined : goal.returns-in-Some-clause-joined
returns-in-Some-clause-joined g c =
    let x : Stored = g.R.Registers.stored c.args.src.now in
    let k : ℕ = c.args.lg_k in
    let size : length x.registers ≡ 2 ^ k = c.requires.legal.registers.size ∙ ap (λ e. 2 ^ e) c.requires.same in
    let parts : ArePartsOf k c.in-Some.parts.minimum c.in-Some.parts.nibbles.now c.in-Some.parts.exceptions x.registers =
    subst (λ e. ArePartsOf e c.in-Some.parts.minimum c.in-Some.parts.nibbles.now c.in-Some.parts.exceptions x.registers) c.requires.same c.in-Some.ensures in
    c.max_with_nibble_parts.ensures x.registers parts
    ∙ ap (join (values c.args.elements.now)) (sym (fold_to-pairs x.registers k (omega (arith, c.requires.same, c.requires.legal.high)) size))

pub returns-in-Some-clause-registers : goal.returns-in-Some-clause-registers
returns-in-Some-clause-registers g c are =
    let x : Stored = g.R.Registers.stored c.args.src.now in
    let k : ℕ = c.args.lg_k in
    let V : List ℕ = values c.args.elements.now in
    let legal : AreRegisters k x.registers = subst (λ e. AreRegisters e x.registers) c.requires.same c.requires.legal.registers in
    let parts : ArePartsOf k c.in-Some.parts.minimum c.in-Some.parts.nibbles.now c.in-Some.parts.exceptions x.registers =
    subst (λ e. ArePartsOf e c.in-Some.parts.minimum c.in-Some.parts.nibbles.now c.in-Some.parts.exceptions x.registers) c.requires.same c.in-Some.ensures in
    AreRegisters-join k V x.registers (values c.max_with_nibble_parts.new.elements) are (are.size ∙ sym legal.size) legal.small (c.max_with_nibble_parts.ensures x.registers parts)
