-- SPDX-License-Identifier: Apache-2.0
use Rattle.std.proofs.Common.{arith, ◌≡◌, ◌<◌, ◌^◌, ◌∙◌, All, None, Some, ap, sym, subst}
use Rattle.std.proofs.lemmas.List.Elements.{All-from_get_or}
use Rattle.std.specs.FinSet.{len}
use Rattle.hll_coupons.specs.AuxMap.{value_in}
use Rattle.hll_kernels.specs.Packed.{nibble_at, mark_nibbles}
use Rattle.hll_registers.specs.FourBits.{exception_in, exceptions_in, IsMapFor, unboxed}
use Rattle.hll_registers.specs.Payload.{Agrees}
use Rattle.hll_registers.proofs.Marked.{agree_all, as_many, none_above}
use Rattle.hll_registers.proofs.agreement.agree.Goals as goal

pub returns-then-marks-count_exceptions-clause-some : goal.returns-then-marks-count_exceptions-clause-some
returns-then-marks-count_exceptions-clause-some g c = λ e agree.
    let fits : All (λ b. b < 256) c.args.nibbles.now = All-from_get_or (λ b. b < 256) c.args.nibbles.now 0 (λ i l. (c.type_inv.nibbles i).fits) in
    let many : mark_nibbles c.args.nibbles.now ≡ len (exceptions_in (unboxed c.args.map.now)) =
    as_many c.args.lg_k c.args.nibbles.now (unboxed c.args.map.now) c.requires.size fits c.requires.map c.args.minimum agree in
    c.if-marks-count_exceptions.true (c.requires.marks ∙ many ∙ sym (c.count_exceptions.ensures.count c.args.lg_k c.requires.map))

pub returns-then-not-are_plain-clause-some : goal.returns-then-not-are_plain-clause-some
returns-then-not-are_plain-clause-some g c = λ e agree.
    let fits : All (λ b. b < 256) c.args.nibbles.now = All-from_get_or (λ b. b < 256) c.args.nibbles.now 0 (λ i l. (c.type_inv.nibbles i).fits) in
    c.are_plain.ensures.some c.if-not-are_plain.true
    (none_above c.args.lg_k c.args.nibbles.now (unboxed c.args.map.now) c.requires.size fits c.requires.map c.args.minimum (omega (arith, c.are_plain.ensures.high c.if-not-are_plain.true)) agree)

pub returns-in-Some-clause-all : goal.returns-in-Some-clause-all
returns-in-Some-clause-all g c = λ e.
    let fits : All (λ b. b < 256) c.args.nibbles.now = All-from_get_or (λ b. b < 256) c.args.nibbles.now 0 (λ i l. (c.type_inv.nibbles i).fits) in
    let many : mark_nibbles c.args.nibbles.now ≡ len (exceptions_in (unboxed c.args.map.now)) = sym c.requires.marks ∙ c.if-marks-count_exceptions.false ∙ c.count_exceptions.ensures.count c.args.lg_k c.requires.map in
    agree_all c.args.lg_k c.args.nibbles.now (unboxed c.args.map.now) c.requires.size fits c.requires.map c.args.minimum many (c.are_plain.ensures.all c.if-not-are_plain.false)
    (λ s v is. c.are_marked.ensures.all e s v (ap (λ t. value_in t s) c.deref.ensures ∙ ap (λ m. exception_in (unboxed m) s) (sym c.in-Some.is) ∙ is))

pub returns-in-Some-clause-some : goal.returns-in-Some-clause-some
returns-in-Some-clause-some g c = λ f agree.
    let x = c.are_marked.ensures.some f in
    let here : unboxed c.args.map.now ≡ Some c.deref.result.now = ap unboxed c.in-Some.is ∙ ap (λ t. Some t) (sym c.deref.ensures) in
    let map : IsMapFor c.args.lg_k (Some c.deref.result.now) = subst (IsMapFor c.args.lg_k) here c.requires.map in
    let within : x.0 < 2 ^ c.args.lg_k = subst (λ k. x.0 < 2 ^ k) map.1 x.2 in
    x.4 (subst (Agrees c.args.minimum (nibble_at c.args.nibbles.now x.0)) (ap (λ o. exception_in o x.0) here ∙ x.3) (agree x.0 within))

pub returns-in-None-clause-all : goal.returns-in-None-clause-all
returns-in-None-clause-all g c = λ e.
    let fits : All (λ b. b < 256) c.args.nibbles.now = All-from_get_or (λ b. b < 256) c.args.nibbles.now 0 (λ i l. (c.type_inv.nibbles i).fits) in
    let many : mark_nibbles c.args.nibbles.now ≡ len (exceptions_in (unboxed c.args.map.now)) = sym c.requires.marks ∙ c.if-marks-count_exceptions.false ∙ c.count_exceptions.ensures.count c.args.lg_k c.requires.map in
    agree_all c.args.lg_k c.args.nibbles.now (unboxed c.args.map.now) c.requires.size fits c.requires.map c.args.minimum many (c.are_plain.ensures.all c.if-not-are_plain.false)
    (λ s v is. let both : None ≡ Some v = sym (ap (λ m. exception_in (unboxed m) s) c.in-None.is) ∙ is in cc)
