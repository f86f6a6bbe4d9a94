-- SPDX-License-Identifier: Apache-2.0
use Rattle.std.proofs.Common.{◌≡◌, ℕ, ◌%◌, ◌^◌, ◌<◌, List, length, subst, ◌∙◌, arith, rules}
use Rattle.std.proofs.Math.ListN.{set}
use Rattle.std.proofs.lemmas.List.{get_or_default}
use Rattle.hll_coupons.specs.Pair.{slot_of}
use Rattle.hll_registers.specs.State.{cleared_state}
use Rattle.hll_registers.specs.Store.{Stored, update_with_coupon}
use Rattle.hll_registers.proofs.Raising.{update_with_pairs-kept, update_with_pairs-written}
use Rattle.hll_arrays.proofs.ZeroCounts.{slot_within, some_zero, zeros_set}
use Rattle.hll_arrays.proofs.array8.Array8.update.Goals as goal

pub zeros_left-self-inside-requires : goal.zeros_left-self-inside-requires
zeros_left-self-inside-requires g c =
    let R : List ℕ = c.self.inside.registers.items in
    let t : ℕ = c.slot.result % c.two_to.result in
    let within : t < length R = slot_within c.slot.result c.two_to.result c.self.inside.lg_config_k R c.two_to.ensures c.self.invariant.2.size in
    record { some = λ none. some_zero c.self.inside.zero_count R t c.index-register.result.now c.self.invariant.4 within (c.index-register.ensures ∙ get_or_default R t c.index-register.result.now 0 within) none }

pub returns-then-register-value : goal.returns-then-register-value
returns-then-register-value g c =
    let k : ℕ = c.self.inside.lg_config_k in
    let R : List ℕ = c.self.inside.registers.items in
    let t : ℕ = c.slot.result % c.two_to.result in
    let at : t ≡ slot_of c.args.coupon % 2 ^ k = λ i. c.slot.ensures.slot i % c.two_to.ensures i in
    let written : Stored = record { lg_k = k; registers = set R t c.value-then-register-value.result; state = cleared_state } in
    subst (λ z. written ≡ update_with_coupon z c.args.coupon) c.self.view_is
    (update_with_pairs-written k R c.args.coupon c.self.inside.state c.self.invariant.2.size t c.index-register.result.now at c.index-register.ensures c.value-then-register-value.result c.value-then-register-value.ensures.value (omega (arith, c.if-register-value.true, c.value.ensures.value)))

pub returns-else-register-value : goal.returns-else-register-value
returns-else-register-value g c =
    let k : ℕ = c.self.inside.lg_config_k in
    let R : List ℕ = c.self.inside.registers.items in
    let t : ℕ = c.slot.result % c.two_to.result in
    let at : t ≡ slot_of c.args.coupon % 2 ^ k = λ i. c.slot.ensures.slot i % c.two_to.ensures i in
    subst (λ z. z ≡ update_with_coupon z c.args.coupon) c.self.view_is
    (update_with_pairs-kept k R c.args.coupon c.self.inside.state c.self.invariant.2.size t c.index-register.result.now at c.index-register.ensures (omega (arith, c.if-register-value.false, c.value.ensures.value)))

pub invariant_of-self : goal.invariant_of-self
invariant_of-self g c =
    let R : List ℕ = c.self.inside.registers.items in
    let t : ℕ = c.slot.result % c.two_to.result in
    let within : t < length R = slot_within c.slot.result c.two_to.result c.self.inside.lg_config_k R c.two_to.ensures c.self.invariant.2.size in
    let above : 0 < c.value-then-register-value.result = omega (arith, c.if-register-value.true, c.value.ensures.value, c.value-then-register-value.ensures.value) in (
      c.self.invariant.0,
      c.self.invariant.1,
      search rules,
      search rules,
      zeros_set c.self.inside.zero_count c.zeros_left-self-inside.result R t c.value-then-register-value.result c.index-register.result.now c.self.invariant.4 c.zeros_left-self-inside.ensures.left
          within (c.index-register.ensures ∙ get_or_default R t c.index-register.result.now 0 within) above,
    )
