-- SPDX-License-Identifier: Apache-2.0
use Rattle.std.proofs.Common.{arith, ℕ, ◌≡◌, ◌+◌, ◌<◌, ◌≤◌, ◌^◌, ◌∙◌, List, length, take, get_or, set, sym, ap, subst}
use Rattle.std.specs.Prelude.{min, fold}
use Rattle.std.proofs.lemmas.List.{length-set, get_or-set_same, get_or-set_other, take_all}
use Rattle.hll_registers.specs.FourBits.{NibbleRegisters}
use Rattle.hll_kernels.specs.Packed.{minimum, nibble}
use Rattle.hll_kernels.proofs.Registers.{fold_more}
use Rattle.hll_registers.proofs.FourBits.{packed_is_of_registers}
use Rattle.hll_registers.proofs.FourBitChanges.{least_of_front}
use Rattle.hll_registers.proofs.Packing.{minimum_le}
use Rattle.hll_registers.proofs.nibble_registers.NibbleRegisters.minimum_of_nibbles_with.Goals as goal
use Rattle.hll_registers.proofs.nibble_registers.NibbleRegisters.minimum_of_nibbles_with.Goals.{then-other-slot, else-other-slot}

-- the least after one more register, or 15 above the minimum, if that is less
met : (least front register m seen : ℕ) → least ≡ min front (m + 15) → min seen (m + 15) ≡ min register (m + 15) → min least seen ≡ min (min front register) (m + 15)
met least front register m seen so is = omega (arith, so, is)

-- a nibble determines the register, up to 15 above the minimum
of_nibble : (m r seen : ℕ) → m ≤ r → seen ≡ m + nibble m r → min seen (m + 15) ≡ min r (m + 15)
of_nibble m r seen low is = omega (arith, low, is)

pub loop-other-init : goal.loop-other-init
loop-other-init g c =
    let least : c.self.inside.minimum ≡ minimum c.args.self.now.registers =
    (packed_is_of_registers _ _ _ _ _ _ c.self.invariant.1 c.self.invariant.2).minimum_is ∙ ap (λ (x : NibbleRegisters). minimum x.registers) c.self.view_is in
    omega (arith, c.min-least.ensures, least)

pub loop-other-preserved : goal.loop-other-preserved
loop-other-preserved g c =
    let R : List ℕ = c.args.self.now.registers in
    let new : List ℕ = set R c.args.slot c.args.value in
    let other : ℕ = c.loop-other.other in
    let size : length R ≡ 2 ^ c.self.inside.lg_k = subst (λ (x : NibbleRegisters). length x.registers ≡ 2 ^ c.self.inside.lg_k) c.self.view_is c.self.invariant.2.registers.size in
    let within : other < length new = omega (arith, c.loop-other-test.true, c.two_to-other-end.ensures, size, length-set R c.args.slot c.args.value) in
    let m : ℕ = minimum R in
    let least : c.self.inside.minimum ≡ m = (packed_is_of_registers _ _ _ _ _ _ c.self.invariant.1 c.self.invariant.2).minimum_is ∙ ap (λ (x : NibbleRegisters). minimum x.registers) c.self.view_is in
    let is : min c.if-other-slot.register (m + 15) ≡ min (get_or new other 0) (m + 15) = elim c.if-other-slot.branch [
      | then-other-slot w ↦
          ap (λ r. min r (m + 15)) (w.register-is ∙ sym (ap (λ i. get_or new i 0) w.if-other-slot.true
          ∙ get_or-set_same R c.args.slot c.args.value 0 (omega (arith, within, length-set R c.args.slot c.args.value, w.if-other-slot.true))))
      | else-other-slot w ↦
          of_nibble m (get_or R other 0) c.if-other-slot.register (minimum_le R other (omega (arith, within, length-set R c.args.slot c.args.value)))
          (omega (arith, w.register-is, w.nibble.ensures, least))
          ∙ ap (λ r. min r (m + 15)) (sym (get_or-set_other R c.args.slot other c.args.value 0 w.if-other-slot.false))
    ] in
    c.min-least-in-loop-other.ensures
    ∙ met c.loop-other.least (fold min 63 (take other new)) (get_or new other 0) m c.if-other-slot.register c.loop-other.invariant is
    ∙ ap (λ n. min n (m + 15)) (sym (fold_more 63 other new within))

-- at a register that is one above the minimum
pub returns-then-least-self : goal.returns-then-least-self
returns-then-least-self g c =
    let R : List ℕ = c.args.self.now.registers in
    let new : List ℕ = set R c.args.slot c.args.value in
    let other : ℕ = c.loop-other.other in
    let size : length R ≡ 2 ^ c.self.inside.lg_k = subst (λ (x : NibbleRegisters). length x.registers ≡ 2 ^ c.self.inside.lg_k) c.self.view_is c.self.invariant.2.registers.size in
    let within : other < length new = omega (arith, c.loop-other-test.true, c.two_to-other-end.ensures, size, length-set R c.args.slot c.args.value) in
    let m : ℕ = minimum R in
    let least : c.self.inside.minimum ≡ m = (packed_is_of_registers _ _ _ _ _ _ c.self.invariant.1 c.self.invariant.2).minimum_is ∙ ap (λ (x : NibbleRegisters). minimum x.registers) c.self.view_is in
    let is : min c.if-other-slot.register (m + 15) ≡ min (get_or new other 0) (m + 15) = elim c.if-other-slot.branch [
      | then-other-slot w ↦
          ap (λ r. min r (m + 15)) (w.register-is ∙ sym (ap (λ i. get_or new i 0) w.if-other-slot.true
          ∙ get_or-set_same R c.args.slot c.args.value 0 (omega (arith, within, length-set R c.args.slot c.args.value, w.if-other-slot.true))))
      | else-other-slot w ↦
          of_nibble m (get_or R other 0) c.if-other-slot.register (minimum_le R other (omega (arith, within, length-set R c.args.slot c.args.value)))
          (omega (arith, w.register-is, w.nibble.ensures, least))
          ∙ ap (λ r. min r (m + 15)) (sym (get_or-set_other R c.args.slot other c.args.value 0 w.if-other-slot.false))
    ] in
    let F : ℕ = fold min 63 (take (other + 1) new) in
    let front : c.min-least-in-loop-other.result ≡ min F (m + 15) =
    c.min-least-in-loop-other.ensures
    ∙ met c.loop-other.least (fold min 63 (take other new)) (get_or new other 0) m c.if-other-slot.register c.loop-other.invariant is
    ∙ ap (λ n. min n (m + 15)) (sym (fold_more 63 other new within)) in
    let one : F ≡ c.self.inside.minimum + 1 = omega (arith, front, least, c.if-least-self.true) in
    front ∙ ap (λ n. min n (m + 15))
    (least_of_front _ _ _ _ _ c.self.invariant.1 c.self.invariant.2 c.args.self.now c.self.view_is c.args.slot c.args.value (record { within = c.requires.within; more = c.requires.more; most = c.requires.most })
    (other + 1) one c.requires.none)

pub returns : goal.returns
returns g c =
    let R : List ℕ = c.args.self.now.registers in
    let size : length R ≡ 2 ^ c.self.inside.lg_k = subst (λ (x : NibbleRegisters). length x.registers ≡ 2 ^ c.self.inside.lg_k) c.self.view_is c.self.invariant.2.registers.size in
    c.loop-other.invariant
    ∙ ap (λ xs. min (fold min 63 xs) (minimum R + 15)) (take_all c.loop-other.other (set R c.args.slot c.args.value) (omega (arith, c.loop-other-test.false, c.two_to-other-end.ensures, size, length-set R c.args.slot c.args.value)))
