-- SPDX-License-Identifier: Apache-2.0
use Rattle.std.proofs.Common.{◌≡◌, ◌^◌, List, ℕ, length, drop, sym, ap, subst, ◌∙◌, arith}
use Rattle.std.proofs.lemmas.List.{take_rest}
use Rattle.std.proofs.lemmas.Option.{IfSome_then}
use Rattle.hll_coupons.specs.Coupons.{raw_coupons}
use Rattle.hll_coupons.specs.Payload.{set_count}
use Rattle.hll_coupons.specs.Table.{coupons_in}
use Rattle.hll_sketch.specs.Updatable.{HoldCoupons}
use Rattle.hll_sketch.specs.Image.{table_byte, HasSetTable}
use Rattle.hll_sketch.specs.declared.header.Header.{Header}
use Rattle.hll_sketch.specs.MergedIn.{IsOfCoupons}
use Rattle.hll_sketch.proofs.PlacedCoupons.{set_of_buckets, placed_set}
use Rattle.hll_sketch.proofs.SizedImages.{IfNone_then}
use Rattle.hll_sketch.proofs.updatable.set_buckets.Goals as goal

pub returns-clause-coupons : goal.returns-clause-coupons
returns-clause-coupons c =
    let b : List ℕ = c.args.bytes.now in
    let says = c.requires.header in
    let size = ap (λ (h : Header). h.lg_arr) says in
    let table : HasSetTable b = (c.is_set_table.ensures b says).0 c.if-not-is_set_table.false in
    let entry = c.new-cursor.ensures ∙ take_rest b 8 in
    let read = c.in-Ok.ensures.ok in
    let index = c.remaining.ensures ∙ read.2 ∙ ap (drop 4) entry in
    IfSome_then c.front.result c.front.ensures.some λ p is. λ hold.
    let same : raw_coupons p.raw_coupons.count p.raw_coupons.bytes.now ≡ raw_coupons (2 ^ table_byte b) (drop 4 (drop 8 b)) = λ i. raw_coupons ((is.1 ∙ ap (λ n. 2 ^ n) size) i) ((is.0 ∙ index) i) in
    subst (λ ws. IsOfCoupons b (coupons_in ws)) (sym same) (set_of_buckets b p.filled c.requires.has table
    (omega (arith, read.0, ap length entry))
    (is.2 ∙ read.1 ∙ ap set_count entry)
    (ap (λ (h : Header). h.compact) (sym says) ∙ c.if-header.false)
    (omega (arith, is.2, c.if-two_to-filled.false, c.two_to.ensures, ap (λ n. 2 ^ n) size))
    (omega (arith, p.raw_coupons.there, is.1, ap length (is.0 ∙ index), ap (λ n. 2 ^ n) size))
    (subst (HoldCoupons p.filled) same hold))

pub returns-clause-hold : goal.returns-clause-hold
returns-clause-hold c =
    let b : List ℕ = c.args.bytes.now in
    let size = ap (λ (h : Header). h.lg_arr) c.requires.header in
    let entry = c.new-cursor.ensures ∙ take_rest b 8 in
    let read = c.in-Ok.ensures.ok in
    let index = c.remaining.ensures ∙ read.2 ∙ ap (drop 4) entry in
    IfSome_then c.front.result c.front.ensures.some λ p is. λ up.
    let placed = placed_set b c.requires.has up in
    let same : raw_coupons p.raw_coupons.count p.raw_coupons.bytes.now ≡ raw_coupons (2 ^ table_byte b) (drop 4 (drop 8 b)) = λ i. raw_coupons ((is.1 ∙ ap (λ n. 2 ^ n) size) i) ((is.0 ∙ index) i) in
    let number = is.2 ∙ read.1 ∙ ap set_count entry in
    subst (λ n. HoldCoupons n (raw_coupons p.raw_coupons.count p.raw_coupons.bytes.now)) (sym number) (subst (HoldCoupons _) (sym same) placed.hold)

pub returns-clause-none : goal.returns-clause-none
returns-clause-none c = IfNone_then c.front.result c.front.ensures.none λ short up.
    let b : List ℕ = c.args.bytes.now in
    let placed = placed_set b c.requires.has up in
    let size = ap (λ (h : Header). h.lg_arr) c.requires.header in
    let entry = c.new-cursor.ensures ∙ take_rest b 8 in
    let read = c.in-Ok.ensures.ok in
    let index = c.remaining.ensures ∙ read.2 ∙ ap (drop 4) entry in
    let number = read.1 ∙ ap set_count entry in
    short (omega (arith, number, placed.some)) (omega (arith, number, placed.few)) (omega (arith, placed.there, ap length index, ap (λ n. 2 ^ n) size))
