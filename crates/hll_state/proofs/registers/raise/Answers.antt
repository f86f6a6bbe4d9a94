-- SPDX-License-Identifier: Apache-2.0
use Rattle.std.proofs.Common.{◌<◌, ◌≤◌, ◌-◌, nat_eq, not, refl, subst, ◌≡◌, ℕ, ◌%◌, ◌*◌, ◌^◌, List, length, get_or, sym, ap, ◌∙◌, arith}
use Rattle.std.proofs.Math.ListN.{set}
use Rattle.std.proofs.lemmas.Nat.{mod_below, pow_pos}
use Rattle.std.proofs.lemmas.Bool.{false_from_ne_true}
use Rattle.std.proofs.lemmas.List.{get_or-set_same}
use Rattle.std.specs.Cmp.Lexicographic.{pointwise}
use Rattle.hll_kernels.specs.Packed.{AreRegisters}
use Rattle.hll_registers.proofs.FourBitChanges.{registers_set}
use Rattle.hll_registers.proofs.States.{same_decides}
use Rattle.hll_coupons.specs.Pair.{slot_of, value_of}
use Rattle.hll_coupons.proofs.Registers.{folds_again}
use Rattle.hll_registers.proofs.Raising.{join-low, join-high}
use Rattle.hll_state.specs.Registers.{values}
use Rattle.hll_state.proofs.Values.{length-values, four_each}
use Rattle.hll_state.proofs.registers.raise.Goals as goal

-- a slot is one of the elements' registers
slot_inside : (raw k m n : ℕ) → 4 ≤ k → m ≡ 2 ^ k → n ≡ 2 ^ (k - 2) → raw % m < 4 * n
slot_inside raw k m n least is size = omega (arith, ap (λ d. raw % d) is, mod_below raw (2 ^ k) (pow_pos k), four_each k least, ap (λ e. 4 * e) size)

pub get-requires : goal.get-requires
get-requires c = slot_inside c.args.raw c.args.lg_k c.two_to.result (length c.args.elements.now) c.requires.least c.two_to.ensures c.requires.size

pub set-requires : goal.set-requires
set-requires c = slot_inside c.args.raw c.args.lg_k c.two_to.result (length c.args.elements.now) c.requires.least c.two_to.ensures c.requires.size

pub returns-then-get-value-clause-joined : goal.returns-then-get-value-clause-joined
returns-then-get-value-clause-joined c =
    let k : ℕ = c.args.lg_k in
    let R : List ℕ = values c.args.elements.now in
    let size : length R ≡ 2 ^ k = length-values c.args.elements.now c.told-elements ∙ ap (λ n. 4 * n) c.requires.size ∙ four_each k c.requires.least in
    let at : c.args.raw % c.two_to.result ≡ slot_of c.args.raw % 2 ^ k = ap (λ n. c.args.raw % n) c.two_to.ensures ∙ sym (folds_again c.args.raw 26 k (omega (arith, c.requires.most))) in
    join-low k R c.args.raw size (omega (arith, c.if-get-value.true, c.get.ensures, ap (λ i. get_or R i 0) at))

pub returns-then-get-value-clause-changed : goal.returns-then-get-value-clause-changed
returns-then-get-value-clause-changed c = let R : List ℕ = values c.args.elements.now in ap not (sym ((same_decides R R).1 refl))

pub returns-clause-joined : goal.returns-clause-joined
returns-clause-joined c =
    let k : ℕ = c.args.lg_k in
    let R : List ℕ = values c.args.elements.now in
    let size : length R ≡ 2 ^ k = length-values c.args.elements.now c.told-elements ∙ ap (λ n. 4 * n) c.requires.size ∙ four_each k c.requires.least in
    let at : c.args.raw % c.two_to.result ≡ slot_of c.args.raw % 2 ^ k = ap (λ n. c.args.raw % n) c.two_to.ensures ∙ sym (folds_again c.args.raw 26 k (omega (arith, c.requires.most))) in
    c.set.ensures ∙ ap (λ s. set R s (value_of c.args.raw)) at
    ∙ join-high k R c.args.raw size (omega (arith, size, mod_below (slot_of c.args.raw) (2 ^ k) (pow_pos k)))
    (omega (arith, c.if-get-value.false, c.get.ensures, ap (λ i. get_or R i 0) at))

pub returns-clause-changed : goal.returns-clause-changed
returns-clause-changed c =
    let R : List ℕ = values c.args.elements.now in
    let Q : List ℕ = values c.set.new.elements in
    let slot : ℕ = c.args.raw % c.two_to.result in
    let inside : slot < length R = omega (arith, slot_inside c.args.raw c.args.lg_k c.two_to.result (length c.args.elements.now) c.requires.least c.two_to.ensures c.requires.size, length-values c.args.elements.now c.told-elements) in
    let other : R ≡ Q → ⊥ = λ e. omega (arith, ap (λ (X : List ℕ). get_or X slot 0) (e ∙ c.set.ensures), get_or-set_same R slot (value_of c.args.raw) 0 inside, c.get.ensures, c.if-get-value.false) in
    ap not (sym (false_from_ne_true (pointwise nat_eq R Q) (λ t. other ((same_decides R Q).0 t))))

pub returns-clause-small : goal.returns-clause-small
returns-clause-small c are =
    let R : List ℕ = values c.args.elements.now in
    let slot : ℕ = c.args.raw % c.two_to.result in
    let inside : slot < 2 ^ c.args.lg_k = omega (arith, slot_inside c.args.raw c.args.lg_k c.two_to.result (length c.args.elements.now) c.requires.least c.two_to.ensures c.requires.size, ap (λ n. 4 * n) c.requires.size, four_each c.args.lg_k c.requires.least) in
    subst (AreRegisters c.args.lg_k) (sym c.set.ensures) (registers_set c.args.lg_k R slot (value_of c.args.raw) are inside (omega (arith, c.ranges.raw.fits)))
