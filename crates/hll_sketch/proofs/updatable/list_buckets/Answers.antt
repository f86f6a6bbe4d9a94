-- SPDX-License-Identifier: Apache-2.0
use Rattle.std.proofs.Common.{◌≡◌, List, ℕ, length, drop, sym, ap, subst, ◌∙◌, arith}
use Rattle.std.proofs.lemmas.List.{take_rest}
use Rattle.std.proofs.lemmas.Option.{IfSome_then}
use Rattle.hll_coupons.specs.Coupons.{raw_coupons}
use Rattle.hll_coupons.specs.Table.{coupons_in}
use Rattle.hll_sketch.specs.Updatable.{HoldCoupons}
use Rattle.hll_sketch.specs.declared.header.Header.{Header}
use Rattle.hll_sketch.specs.MergedIn.{IsOfCoupons}
use Rattle.hll_sketch.proofs.PlacedCoupons.{list_of_buckets, placed_list}
use Rattle.hll_sketch.proofs.SizedImages.{IfNone_then}
use Rattle.hll_sketch.proofs.updatable.list_buckets.Goals as goal

pub returns-clause-coupons : goal.returns-clause-coupons
returns-clause-coupons c =
    let b : List ℕ = c.args.bytes.now in
    let says = c.requires.header in
    IfSome_then c.front.result c.front.ensures.some λ p is. λ hold.
    let same : raw_coupons p.raw_coupons.count p.raw_coupons.bytes.now ≡ raw_coupons 8 (drop 8 b) = λ i. raw_coupons (is.1 i) ((is.0 ∙ take_rest b 8) i) in
    let number = is.2 ∙ c.from-filled.ensures in
    subst (λ ws. IsOfCoupons b (coupons_in ws)) (sym same) (list_of_buckets b p.filled c.requires.has
    (ap (λ (h : Header). h.lg_arr) (sym says) ∙ c.if-header-ne-LG_LIST_BUCKETS.false)
    (number ∙ ap (λ (h : Header). h.state_byte) says)
    (ap (λ (h : Header). h.empty) (sym says) ∙ c.if-header-2.false)
    (ap (λ (h : Header). h.compact) (sym says) ∙ c.if-header.false)
    p.some (omega (arith, number, c.from-filled.ensures, c.if-two_to-filled.false, c.two_to.ensures))
    (omega (arith, p.raw_coupons.there, is.1, ap length (is.0 ∙ take_rest b 8)))
    (subst (HoldCoupons p.filled) same hold))

pub returns-clause-hold : goal.returns-clause-hold
returns-clause-hold c =
    let b : List ℕ = c.args.bytes.now in
    IfSome_then c.front.result c.front.ensures.some λ p is. λ up.
    let placed = placed_list b c.requires.has up in
    let same : raw_coupons p.raw_coupons.count p.raw_coupons.bytes.now ≡ raw_coupons 8 (drop 8 b) = λ i. raw_coupons (is.1 i) ((is.0 ∙ take_rest b 8) i) in
    let number = is.2 ∙ c.from-filled.ensures ∙ ap (λ (h : Header). h.state_byte) c.requires.header in
    subst (λ n. HoldCoupons n (raw_coupons p.raw_coupons.count p.raw_coupons.bytes.now)) (sym number) (subst (HoldCoupons _) (sym same) placed.hold)

pub returns-clause-none : goal.returns-clause-none
returns-clause-none c = IfNone_then c.front.result c.front.ensures.none λ short up.
    let placed = placed_list c.args.bytes.now c.requires.has up in
    let number = c.from-filled.ensures ∙ ap (λ (h : Header). h.state_byte) c.requires.header in
    short (omega (arith, number, placed.some)) (omega (arith, number, placed.few)) (omega (arith, placed.there, ap length (take_rest c.args.bytes.now 8)))
