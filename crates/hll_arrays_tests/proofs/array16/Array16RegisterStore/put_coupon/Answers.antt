-- SPDX-License-Identifier: Apache-2.0
use Rattle.std.proofs.Common.{◌≡◌, ℕ, ◌%◌, ◌^◌, List, subst, arith, ◌∙◌}
use Rattle.std.proofs.Math.ListN.{set}
use Rattle.hll_coupons.specs.Pair.{slot_of}
use Rattle.hll_registers.specs.State.{cleared_state}
use Rattle.hll_registers.specs.Store.{Stored, update_with_coupon}
use Rattle.hll_registers.proofs.Raising.{update_with_pairs-kept, update_with_pairs-written}
use Rattle.hll_arrays_tests.proofs.array16.Array16RegisterStore.put_coupon.Goals as goal

pub returns-then-from-index-clause-ok : goal.returns-then-from-index-clause-ok
returns-then-from-index-clause-ok g c =
    let k : ℕ = c.self.inside.lg_k in
    let R : List ℕ = c.self.inside.registers.items in
    let t : ℕ = c.slot.result % c.two_to.result in
    let at : t ≡ slot_of c.args.coupon % 2 ^ k = λ i. c.slot.ensures.slot i % c.two_to.ensures i in
    subst (λ z. z ≡ update_with_coupon z c.args.coupon) c.self.view_is
    (update_with_pairs-kept k R c.args.coupon c.self.inside.state c.self.invariant.2.size t c.index.result.now at c.index.ensures (omega (arith, c.if-from-index.true, c.from.ensures, c.value.ensures.value)))

pub returns-clause-ok : goal.returns-clause-ok
returns-clause-ok g c =
    let k : ℕ = c.self.inside.lg_k in
    let R : List ℕ = c.self.inside.registers.items in
    let t : ℕ = c.slot.result % c.two_to.result in
    let at : t ≡ slot_of c.args.coupon % 2 ^ k = λ i. c.slot.ensures.slot i % c.two_to.ensures i in
    let written : Stored = record { lg_k = k; registers = set R t c.from-2.result; state = cleared_state } in
    subst (λ z. written ≡ update_with_coupon z c.args.coupon) c.self.view_is
    (update_with_pairs-written k R c.args.coupon c.self.inside.state c.self.invariant.2.size t c.index.result.now at c.index.ensures c.from-2.result (c.from-2.ensures ∙ c.value-2.ensures.value) (omega (arith, c.if-from-index.false, c.from.ensures, c.value.ensures.value)))
