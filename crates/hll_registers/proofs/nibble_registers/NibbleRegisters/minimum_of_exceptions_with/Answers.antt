-- SPDX-License-Identifier: Apache-2.0
use Rattle.std.proofs.Common.{arith, ℕ, ◌≡◌, ◌<◌, ◌^◌, ◌∙◌, List, length, get_or, set, sym, ap, subst}
use Rattle.std.specs.Prelude.{min, fold}
use Rattle.std.proofs.lemmas.List.{length-set, get_or-set_same, get_or-set_other, take_all}
use Rattle.hll_registers.specs.FourBits.{NibbleRegisters}
use Rattle.hll_kernels.proofs.Registers.{fold_more}
use Rattle.hll_registers.proofs.nibble_registers.NibbleRegisters.minimum_of_exceptions_with.Goals as goal
use Rattle.hll_registers.proofs.nibble_registers.NibbleRegisters.minimum_of_exceptions_with.Goals.{then-other-slot, else-other-slot}

pub loop-other-preserved : goal.loop-other-preserved
loop-other-preserved g c =
    let R : List ℕ = c.args.self.now.registers in
    let size : length R ≡ 2 ^ c.self.inside.lg_k = subst (λ (x : NibbleRegisters). length x.registers ≡ 2 ^ c.self.inside.lg_k) c.self.view_is c.self.invariant.2.registers.size in
    let within : c.loop-other.other < length (set R c.args.slot c.args.value) = omega (arith, c.loop-other-test.true, c.two_to-other-end.ensures, size, length-set R c.args.slot c.args.value) in
    let register : c.if-other-slot.register ≡ get_or (set R c.args.slot c.args.value) c.loop-other.other 0 = elim c.if-other-slot.branch [
      | then-other-slot w ↦
          w.register-is ∙ sym (ap (λ i. get_or (set R c.args.slot c.args.value) i 0) w.if-other-slot.true
          ∙ get_or-set_same R c.args.slot c.args.value 0 (omega (arith, within, length-set R c.args.slot c.args.value, w.if-other-slot.true)))
      | else-other-slot w ↦ w.register-is ∙ w.get-register.ensures.register ∙ sym (get_or-set_other R c.args.slot c.loop-other.other c.args.value 0 w.if-other-slot.false)
    ] in
    c.min-least.ensures ∙ (λ i. min (c.loop-other.invariant i) (register i)) ∙ sym (fold_more 63 c.loop-other.other (set R c.args.slot c.args.value) within)

pub returns : goal.returns
returns g c =
    let R : List ℕ = c.args.self.now.registers in
    let size : length R ≡ 2 ^ c.self.inside.lg_k = subst (λ (x : NibbleRegisters). length x.registers ≡ 2 ^ c.self.inside.lg_k) c.self.view_is c.self.invariant.2.registers.size in
    c.loop-other.invariant ∙ ap (fold min 63) (take_all c.loop-other.other (set R c.args.slot c.args.value) (omega (arith, c.loop-other-test.false, c.two_to-other-end.ensures, size, length-set R c.args.slot c.args.value)))
