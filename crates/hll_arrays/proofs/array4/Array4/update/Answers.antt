-- SPDX-License-Identifier: Apache-2.0
use Rattle.std.proofs.Common.{◌≡◌, ◌<◌, ◌%◌, ◌^◌, ◌∙◌, ℕ, List, length, get_or, set, arith, ap, subst}
use Rattle.std.proofs.lemmas.Nat.{mod_below, pow_pos}
use Rattle.hll_base.proofs.Errors.{OnErr-of}
use Rattle.hll_coupons.specs.Pair.{slot_of, value_of}
use Rattle.hll_registers.specs.FourBits.{FourBits, ExceptionsMove}
use Rattle.hll_registers.specs.declared.estimate_state.EstimateState.{EstimateState}
use Rattle.hll_registers.specs.State.{cleared_state}
use Rattle.hll_registers.specs.Store.{Stored, update_with_coupon}
use Rattle.hll_registers.proofs.Raising.{update_with_pairs-low, update_with_pairs-high}
use Rattle.hll_arrays.proofs.array4.Array4.update.Goals as goal

pub returns-then-value-get-clause-ok : goal.returns-then-value-get-clause-ok
returns-then-value-get-clause-ok g c =
    let x = c.self.inside in
    let k : ℕ = x.registers.lg_k in
    let R : List ℕ = x.registers.registers in
    let at : c.slot.result % c.two_to.result ≡ slot_of c.args.coupon % 2 ^ k = λ i. c.slot.ensures.slot i % (c.two_to.ensures ∙ ap (λ n. 2 ^ n) c.lg_k.ensures.lg_k) i in
    let read : c.get.result ≡ get_or R (slot_of c.args.coupon % 2 ^ k) 0 = c.get.ensures.register ∙ ap (λ s. get_or R s 0) at in
    subst (λ (z : FourBits). z.stored ≡ update_with_coupon z.stored c.args.coupon) c.self.view_is
    (update_with_pairs-low k R c.args.coupon c.lg_k.ensures.registers.size x.state (omega (arith, c.if-value-get.true, c.value.ensures.value, read)))

-- a greater value is written
written : (k : ℕ) (R : List ℕ) (state : EstimateState) (coupon slot size old value : ℕ) → slot ≡ slot_of coupon % size → size ≡ 2 ^ k → length R ≡ 2 ^ k → old ≡ get_or R slot 0 → value ≡ value_of coupon → old < value →
    let x : Stored = record { lg_k = k; registers = R; state = state } in
    let y : Stored = record { lg_k = k; registers = set R slot value; state = cleared_state } in y ≡ update_with_coupon x coupon
written k R state coupon slot size old value at size_is many read value_is high =
    let here : slot ≡ slot_of coupon % 2 ^ k = at ∙ ap (λ n. slot_of coupon % n) size_is in
    let register : old ≡ get_or R (slot_of coupon % 2 ^ k) 0 = read ∙ ap (λ s. get_or R s 0) here in
    (λ i. record { lg_k = k; registers = set R (here i) (value_is i); state = cleared_state })
    ∙ update_with_pairs-high k R coupon many state (omega (arith, many, mod_below (slot_of coupon) (2 ^ k) (pow_pos k))) (omega (arith, high, register, value_is))

pub returns-in_err-max_slot-clause-needed : goal.returns-in_err-max_slot-clause-needed
returns-in_err-max_slot-clause-needed g c =
    let x = c.self.inside in
    let k : ℕ = x.registers.lg_k in
    let R : List ℕ = x.registers.registers in
    let is = written k R x.state c.args.coupon (c.slot.result % c.two_to.result) c.two_to.result c.get.result c.value-2.result (ap (λ s. s % c.two_to.result) c.slot.ensures.slot)
    (c.two_to.ensures ∙ ap (λ n. 2 ^ n) c.lg_k.ensures.lg_k) c.lg_k.ensures.registers.size c.get.ensures.register c.value-2.ensures.value (omega (arith, c.if-value-get.false, c.value.ensures.value, c.value-2.ensures.value)) in
    OnErr-of c.from_residual.result _ (subst (λ (z : FourBits). ExceptionsMove z.stored.lg_k z.stored.registers (update_with_coupon z.stored c.args.coupon).registers) c.self.view_is
    (subst (λ (y : Stored). ExceptionsMove k R y.registers) is c.in_err-max_slot.ensures.needed))

pub returns-clause-ok : goal.returns-clause-ok
returns-clause-ok g c =
    let x = c.self.inside in
    let k : ℕ = x.registers.lg_k in
    let R : List ℕ = x.registers.registers in
    let is = written k R x.state c.args.coupon (c.slot.result % c.two_to.result) c.two_to.result c.get.result c.value-2.result (ap (λ s. s % c.two_to.result) c.slot.ensures.slot)
    (c.two_to.ensures ∙ ap (λ n. 2 ^ n) c.lg_k.ensures.lg_k) c.lg_k.ensures.registers.size c.get.ensures.register c.value-2.ensures.value (omega (arith, c.if-value-get.false, c.value.ensures.value, c.value-2.ensures.value)) in
    subst (λ (z : FourBits). ◌≡◌ {A = Stored} (record { lg_k = c.max_slot.new.self.lg_k; registers = c.max_slot.new.self.registers; state = cleared_state }) (update_with_coupon z.stored c.args.coupon)) c.self.view_is
    ((λ i. record { lg_k = c.in_ok-max_slot.ensures.lg_k i; registers = c.in_ok-max_slot.ensures.ok i; state = cleared_state }) ∙ is)
