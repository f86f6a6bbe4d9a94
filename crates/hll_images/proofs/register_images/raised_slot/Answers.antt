-- SPDX-License-Identifier: Apache-2.0
use Rattle.std.proofs.Common.{◌≡◌, ℕ, ◌%◌, ◌/◌, ◌^◌, ◌<◌, ◌≤◌, length, get_or, sym, ap, ◌∙◌, arith}
use Rattle.std.proofs.Math.ListN.{set}
use Rattle.std.proofs.lemmas.Nat.{mod_below, pow_pos}
use Rattle.hll_coupons.specs.Pair.{slot_of}
use Rattle.hll_coupons.proofs.Registers.{folds_again}
use Rattle.hll_registers.specs.State.{cleared_state}
use Rattle.hll_registers.specs.Store.{Stored, IsStored}
use Rattle.hll_registers.proofs.Raising.{update_with_pairs-low, update_with_pairs-high}
use Rattle.hll_images.proofs.register_images.raised_slot.Goals as goal

-- the slot of a coupon at an lg_k
folded : (raw k n m : ℕ) → n ≡ 2 ^ m → m ≡ k → k ≤ 21 → raw % n ≡ slot_of raw % 2 ^ k
folded raw k n m is same most = ap (λ d. raw % d) (is ∙ ap (λ e. 2 ^ e) same) ∙ sym (folds_again raw 26 k (omega (arith, most)))

pub returns-then-get-raw_coupon-clause-some : goal.returns-then-get-raw_coupon-clause-some
returns-then-get-raw_coupon-clause-some g c =
    let x : Stored = g.R.Registers.stored c.args.source.now in
    let k : ℕ = x.lg_k in
    let legal : IsStored x = c.lg_k.ensures.legal in
    let at = folded c.args.raw_coupon k c.two_to.result c.lg_k.result c.two_to.ensures c.lg_k.ensures.lg_k legal.high in
    let got : c.get.result ≡ get_or x.registers (slot_of c.args.raw_coupon % 2 ^ k) 0 = c.get.ensures ∙ ap (λ i. get_or x.registers i 0) at in
    let within : slot_of c.args.raw_coupon % 2 ^ k < length x.registers = omega (arith, legal.registers.size, mod_below (slot_of c.args.raw_coupon) (2 ^ k) (pow_pos k)) in
    sym ((λ i. record { lg_k = k; registers = set x.registers (at i) (c.args.raw_coupon / 67108864); state = cleared_state })
    ∙ update_with_pairs-high k x.registers c.args.raw_coupon legal.registers.size x.state within (omega (arith, c.if-get-raw_coupon.true, got)))

pub returns-else-get-raw_coupon-clause-none : goal.returns-else-get-raw_coupon-clause-none
returns-else-get-raw_coupon-clause-none g c =
    let x : Stored = g.R.Registers.stored c.args.source.now in
    let k : ℕ = x.lg_k in
    let legal : IsStored x = c.lg_k.ensures.legal in
    let at = folded c.args.raw_coupon k c.two_to.result c.lg_k.result c.two_to.ensures c.lg_k.ensures.lg_k legal.high in
    let got : c.get.result ≡ get_or x.registers (slot_of c.args.raw_coupon % 2 ^ k) 0 = c.get.ensures ∙ ap (λ i. get_or x.registers i 0) at in
    sym (update_with_pairs-low k x.registers c.args.raw_coupon legal.registers.size x.state (omega (arith, c.if-get-raw_coupon.false, got)))

pub returns-then-get-raw_coupon-clause-greater : goal.returns-then-get-raw_coupon-clause-greater
returns-then-get-raw_coupon-clause-greater g c = omega (arith, c.if-get-raw_coupon.true, c.get.ensures)
