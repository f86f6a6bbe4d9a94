-- SPDX-License-Identifier: Apache-2.0
use Rattle.std.proofs.Common.{◌≡◌, ℕ, ◌-◌, ◌%◌, ◌/◌, ◌^◌, List, length, get_or, take, sym, ap, ◌∙◌, arith}
use Rattle.std.proofs.lemmas.Bool.{leb-true}
use Rattle.std.proofs.lemmas.Nat.{mod_below, pow_pos}
use Rattle.std.proofs.lemmas.List.{length-take-le}
use Rattle.hll_coupons.specs.Pair.{slot_of}
use Rattle.hll_coupons.proofs.Registers.{folds_again}
use Rattle.hll_registers.proofs.Raising.{join-low}
use Rattle.hll_state.specs.Registers.{values}
use Rattle.hll_state.proofs.Parts.{length-values-take}
use Rattle.hll_state.proofs.Values.{four_each}
use Rattle.hll_state.proofs.registers.is_raised.Goals as goal

pub get-requires : goal.get-requires
get-requires c =
    omega (
      arith,
      ap (λ d. c.args.raw % d) c.two_to.ensures,
      mod_below c.args.raw (2 ^ c.args.lg_k) (pow_pos c.args.lg_k),
      four_each c.args.lg_k c.requires.least,
      c.two_to-2.ensures,
      length-take-le c.two_to-2.result c.args.elements.now (omega (arith, c.two_to-2.ensures, c.requires.size)),
    )

pub returns : goal.returns
returns c yes' =
    let k : ℕ = c.args.lg_k in
    let R : List ℕ = values (take (2 ^ (k - 2)) c.args.elements.now) in
    let size : length R ≡ 2 ^ k = length-values-take (2 ^ (k - 2)) c.args.elements.now c.told-elements c.requires.size ∙ four_each k c.requires.least in
    let at : c.args.raw % c.two_to.result ≡ slot_of c.args.raw % 2 ^ k = ap (λ n. c.args.raw % n) c.two_to.ensures ∙ sym (folds_again c.args.raw 26 k (omega (arith, c.requires.most))) in
    let got : c.get.result ≡ get_or R (slot_of c.args.raw % 2 ^ k) 0 = c.get.ensures ∙ ap (λ n. get_or (values (take n c.args.elements.now)) (c.args.raw % c.two_to.result) 0) c.two_to-2.ensures ∙ ap (λ i. get_or R i 0) at in
    join-low k R c.args.raw size (omega (arith, leb-true (c.args.raw / 67108864) c.get.result yes', got))
