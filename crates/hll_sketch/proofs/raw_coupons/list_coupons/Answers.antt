-- SPDX-License-Identifier: Apache-2.0
use Rattle.std.proofs.Common.{◌≡◌, ◌||◌, Bool, true, false, nat_eq, refl, List, ℕ, length, drop, sym, ap, subst, ◌∙◌, arith}
use Rattle.std.specs.Bool.{beq}
use Rattle.std.proofs.lemmas.Bool.{ne_eqb, not-false, true≢false}
use Rattle.std.proofs.lemmas.List.{take_rest}
use Rattle.std.proofs.lemmas.Option.{IfSome_then}
use Rattle.hll_coupons.specs.Coupons.{raw_coupons, AreCoupons}
use Rattle.hll_sketch.specs.declared.header.Header.{Header}
use Rattle.hll_sketch.specs.MergedIn.{IsOfCoupons}
use Rattle.hll_sketch.proofs.BorrowedCoupons.{list_of_coupons}
use Rattle.hll_sketch.proofs.SizedImages.{list_there, IfNone_then}
use Rattle.hll_sketch.proofs.raw_coupons.list_coupons.Goals as goal

same_truth : (x y : Bool) → beq x y ≡ true → x ≡ y
same_truth true true e = refl
same_truth true false e = sym e
same_truth false true e = e
same_truth false false e = refl

first_of : (x y : Bool) → (x || y) ≡ true → y ≡ false → x ≡ true
first_of true y either none = refl
first_of false y either none = absurd (true≢false (sym either ∙ none))

pub returns-clause-coupons : goal.returns-clause-coupons
returns-clause-coupons c =
    let b : List ℕ = c.args.bytes.now in
    let says = c.requires.header in
    IfSome_then c.front.result c.front.ensures.some λ w is. λ are.
    let index = is.0 ∙ take_rest b 8 in
    let same : raw_coupons w.count w.bytes.now ≡ raw_coupons w.count (drop 8 b) = ap (raw_coupons w.count) index in
    let number = is.1 ∙ c.from-count.ensures in
    subst (IsOfCoupons b) (sym same) (list_of_coupons b w.count c.requires.has
    (ap (λ (h : Header). h.lg_arr) (sym says) ∙ c.if-header-ne-LG_LIST_BUCKETS.false)
    (number ∙ ap (λ (h : Header). h.state_byte) says)
    (ap (λ (h : Header). h.empty) (sym says) ∙ same_truth _ _ (not-false _ c.if-header-count.false) ∙ ap (λ n. nat_eq n 0) (sym is.1))
    (λ some. ap (λ (h : Header). h.compact) (sym says) ∙ first_of _ _ c.if-not-header-count.false (ne_eqb c.from-count.result 0 (λ z. absurd (omega (arith, z, is.1, some)))))
    (omega (arith, number, c.from-count.ensures, c.if-two_to-count.false, c.two_to.ensures))
    (omega (arith, is.2, is.1, ap length (take_rest b 8)))
    (subst AreCoupons same are))

pub returns-clause-none : goal.returns-clause-none
returns-clause-none c = IfNone_then c.front.result c.front.ensures.none λ short up.
    let there = list_there c.args.bytes.now c.requires.has up in
    let count = c.from-count.ensures ∙ ap (λ (h : Header). h.state_byte) c.requires.header in
    omega (arith, there.1, count, short, ap length (take_rest c.args.bytes.now 8))

pub returns-clause-compact : goal.returns-clause-compact
returns-clause-compact c =
    IfSome_then c.front.result c.front.ensures.some λ w is. λ some.
    ap (λ (h : Header). h.compact) (sym c.requires.header) ∙ first_of _ _ c.if-not-header-count.false (ne_eqb c.from-count.result 0 (λ z. absurd (omega (arith, z, is.1, some))))
