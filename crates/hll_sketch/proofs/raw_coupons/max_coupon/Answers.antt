-- SPDX-License-Identifier: Apache-2.0
use Rattle.std.proofs.Common.{◌≡◌, ℕ, ◌%◌, ◌^◌, List, get_or, ap, ◌∙◌, arith}
use Rattle.std.proofs.Math.ListN.{set}
use Rattle.std.proofs.lemmas.Nat.{mod_below, pow_pos}
use Rattle.hll_coupons.specs.Pair.{slot_of}
use Rattle.hll_registers.proofs.Raising.{join-low, join-high}
use Rattle.hll_sketch.proofs.raw_coupons.max_coupon.Goals as goal

pub returns-then-register-value : goal.returns-then-register-value
returns-then-register-value c =
    let k : ℕ = c.args.lg_k in
    let R : List ℕ = c.args.registers.now in
    let at : c.slot.result % c.two_to.result ≡ slot_of c.args.coupon % 2 ^ k = λ i. c.slot.ensures.slot i % c.two_to.ensures i in
    (λ i. set R (at i) (c.value-then-register-value.ensures.value i))
    ∙ join-high k R c.args.coupon c.requires.size (omega (arith, c.requires.size, mod_below (slot_of c.args.coupon) (2 ^ k) (pow_pos k)))
    (omega (arith, c.if-register-value.true, c.value.ensures.value, ap (λ i. get_or R i 0) at))

pub returns-else-register-value : goal.returns-else-register-value
returns-else-register-value c =
    let k : ℕ = c.args.lg_k in
    let R : List ℕ = c.args.registers.now in
    let at : c.slot.result % c.two_to.result ≡ slot_of c.args.coupon % 2 ^ k = λ i. c.slot.ensures.slot i % c.two_to.ensures i in
    join-low k R c.args.coupon c.requires.size (omega (arith, c.if-register-value.false, c.value.ensures.value, ap (λ i. get_or R i 0) at))
