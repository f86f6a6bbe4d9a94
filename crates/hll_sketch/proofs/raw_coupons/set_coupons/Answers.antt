-- SPDX-License-Identifier: Apache-2.0
use Rattle.std.proofs.Common.{◌≡◌, ◌^◌, ◌≤◌, true, List, ℕ, length, drop, sym, ap, subst, ◌∙◌, arith}
use Rattle.std.proofs.lemmas.Bool.{not-false}
use Rattle.std.proofs.lemmas.List.{length-drop, take_rest}
use Rattle.std.proofs.lemmas.Option.{IfSome_then}
use Rattle.hll_coupons.specs.Coupons.{raw_coupons, AreCoupons}
use Rattle.hll_sketch.specs.declared.header.Header.{Header}
use Rattle.hll_coupons.specs.Payload.{set_buckets, set_count, shape_of_set}
use Rattle.hll_sketch.specs.Image.{HasSetTable, is_flagged, set_shape, table_byte}
use Rattle.hll_sketch.specs.MergedIn.{IsOfCoupons}
use Rattle.hll_sketch.proofs.BorrowedCoupons.{set_of_coupons}
use Rattle.hll_sketch.proofs.FirstFailing.{set_asked}
use Rattle.hll_sketch.proofs.SizedImages.{set_there, IfNone_then}
use Rattle.hll_sketch.proofs.raw_coupons.set_coupons.Goals as goal

pub returns-clause-coupons : goal.returns-clause-coupons
returns-clause-coupons c =
    let b : List ℕ = c.args.bytes.now in
    let says = c.requires.header in
    let size = ap (λ (h : Header). h.lg_arr) says in
    let table : HasSetTable b = (c.is_set_table.ensures b says).0 c.if-not-is_set_table.false in
    let entry = c.new-cursor.ensures ∙ take_rest b 8 in
    let read = c.in-Ok.ensures.ok in
    IfSome_then c.front.result c.front.ensures.some λ w is. λ are.
    let index : w.bytes.now ≡ drop 4 (drop 8 b) = is.0 ∙ c.remaining.ensures ∙ read.2 ∙ ap (drop 4) entry in
    let same : raw_coupons w.count w.bytes.now ≡ raw_coupons w.count (drop 4 (drop 8 b)) = ap (raw_coupons w.count) index in
    subst (IsOfCoupons b) (sym same) (set_of_coupons b w.count c.requires.has table
    (omega (arith, read.0, ap length entry))
    (is.1 ∙ read.1 ∙ ap set_count entry)
    (ap (λ (h : Header). h.compact) (sym says) ∙ not-false c.args.header.compact c.if-not-header.false)
    (omega (arith, is.1, c.two_to.ensures, ap (λ n. 2 ^ n) size))
    (omega (arith, is.2, is.1, ap length (sym index)))
    (subst AreCoupons same are))

pub returns-clause-sized : goal.returns-clause-sized
returns-clause-sized c =
    let b : List ℕ = c.args.bytes.now in
    let says = c.requires.header in
    let size = ap (λ (h : Header). h.lg_arr) says in
    let table : HasSetTable b = (c.is_set_table.ensures b says).0 c.if-not-is_set_table.false in
    let entry = c.new-cursor.ensures ∙ take_rest b 8 in
    let read = c.in-Ok.ensures.ok in
    let whole : 4 ≤ length (drop 8 b) = omega (arith, read.0, ap length entry) in
    let count = read.1 ∙ ap set_count entry in
    let compact : is_flagged 8 b ≡ true = ap (λ (h : Header). h.compact) (sym says) ∙ not-false c.args.header.compact c.if-not-header.false in
    let buckets : set_buckets (set_shape b) (drop 8 b) ≡ set_count (drop 8 b) = λ i. set_buckets (shape_of_set (table_byte b) (compact i)) (drop 8 b) in
    IfSome_then c.front.result c.front.ensures.some λ w is.
    set_asked b c.requires.has table (record { whole = whole; low = omega (arith, count, c.if-two_to-count.false, c.two_to.ensures, ap (λ n. 2 ^ n) size) })
    (omega (arith, is.2, whole, count, buckets, length-drop 4 (drop 8 b), ap length (c.remaining.ensures ∙ read.2 ∙ ap (drop 4) entry)))

pub returns-clause-none : goal.returns-clause-none
returns-clause-none c = IfNone_then c.front.result c.front.ensures.none λ short up.
    let b : List ℕ = c.args.bytes.now in
    let there = set_there b c.requires.has up in
    let entry = c.new-cursor.ensures ∙ take_rest b 8 in
    let read = c.in-Ok.ensures.ok in
    let count = read.1 ∙ ap set_count entry in
    let index = c.remaining.ensures ∙ read.2 ∙ ap (drop 4) entry in
    omega (arith, there, count, short, ap length index)

pub returns-clause-compact : goal.returns-clause-compact
returns-clause-compact c =
    IfSome_then c.front.result c.front.ensures.some λ w is. ap (λ (h : Header). h.compact) (sym c.requires.header) ∙ not-false c.args.header.compact c.if-not-header.false
