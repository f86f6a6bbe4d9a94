-- SPDX-License-Identifier: Apache-2.0
use Rattle.std.proofs.Common.{◌≡◌, ◌≤◌, ◌%◌, ◌^◌, ◌∙◌, get_or, arith, ap}
use Rattle.std.proofs.lemmas.Bool.{leb-true}
use Rattle.hll_coupons.specs.Pair.{slot_of}
use Rattle.hll_registers.specs.Store.{Stored}
use Rattle.hll_registers.proofs.Raising.{update_with_pairs-low}
use Rattle.hll_sketch.proofs.sketch.is_held.Goals as goal

pub returns : goal.returns
returns g c = λ held.
    let x : Stored = g.S.Registers.stored c.args.store.now in
    let at : c.slot.result % c.two_to.result ≡ slot_of c.args.coupon % 2 ^ x.lg_k = λ i. c.slot.ensures.slot i % (c.two_to.ensures ∙ ap (λ n. 2 ^ n) c.lg_k.ensures.lg_k) i in
    let read : c.get.result ≡ get_or x.registers (slot_of c.args.coupon % 2 ^ x.lg_k) 0 = c.get.ensures ∙ ap (λ s. get_or x.registers s 0) at in
    let low : c.value.result ≤ c.get.result = leb-true _ _ held in
    update_with_pairs-low x.lg_k x.registers c.args.coupon c.lg_k.ensures.legal.registers.size x.state (omega (arith, low, c.value.ensures.value, read))
