-- SPDX-License-Identifier: Apache-2.0
use Rattle.std.proofs.Common.{arith, ◌≡◌, ◌+◌, ◌<◌, ◌^◌, ◌∙◌, ℕ, length, sym, ap, subst, refl}
use Rattle.std.specs.FinSet.{insert, len}
use Rattle.hll_coupons.specs.Pair.{Pairs}
use Rattle.hll_coupons.specs.Table.{Table, coupons_in, coupons_of}
use Rattle.hll_sketch.specs.Value.{coupons}
use Rattle.hll_sketch.specs.Adding.{content_for}
use Rattle.hll_sketch.specs.Layout.{AtMost, size_after}
use Rattle.hll_sketch.proofs.Steps.{stage_next, stage_last, fewer, from_five, AtMost-with}
use Rattle.std.proofs.lemmas.Result.{IfOk-weaker}
use Rattle.hll_sketch.proofs.promotion.promoted_table.Goals as goal

pub returns-in-None-clause-content : goal.returns-in-None-clause-content
returns-in-None-clause-content g c =
    let t : Table = c.args.table.now in
    let S : Pairs = insert (coupons_of t) c.args.coupon in
    let last : c.args.lg_k < size_after t.lg_size + 3 = subst (λ q. c.args.lg_k < size_after q + 3) c.lg_size.ensures.size c.in-None.ensures.none in
    IfOk-weaker c.mode_of_table.result _ _ (λ m folded. folded ∙ ap (content_for c.args.lg_k S) (sym (stage_last c.args.lg_k t.lg_size (len S) c.requires.size c.requires.overflows last))) c.mode_of_table.ensures.content

pub returns-in_ok-set_of_size-in-Some-clause-content : goal.returns-in_ok-set_of_size-in-Some-clause-content
returns-in_ok-set_of_size-in-Some-clause-content g c =
    let t : Table = c.args.table.now in
    let S : Pairs = insert (coupons_of t) c.args.coupon in
    let few : AtMost t.lg_size (len S) = AtMost-with t c.args.coupon (len S) c.table_is_legal.ensures.table c.table_is_legal.ensures.within c.requires.room refl in
    let size : c.in-Some.size ≡ size_after t.lg_size = c.in-Some.ensures.some.0 ∙ ap size_after c.lg_size.ensures.size in
    let set = c.in_ok-set_of_size-in-Some.ensures in
    (λ i. coupons (set.members i) (set.size i))
    ∙ ap (content_for c.args.lg_k S) (sym (stage_next c.args.lg_k t.lg_size (len S) c.in-Some.size c.requires.size c.requires.overflows few size c.in-Some.ensures.some.1))

pub returns-in_ok-set_of_size-in-Some-clause-layout : goal.returns-in_ok-set_of_size-in-Some-clause-layout
returns-in_ok-set_of_size-in-Some-clause-layout g c =
    let t : Table = c.args.table.now in
    let n : ℕ = len (insert (coupons_of t) c.args.coupon) in
    let few : AtMost t.lg_size n = AtMost-with t c.args.coupon n c.table_is_legal.ensures.table c.table_is_legal.ensures.within c.requires.room refl in
    let size : c.in-Some.size ≡ size_after t.lg_size = c.in-Some.ensures.some.0 ∙ ap size_after c.lg_size.ensures.size in
    let set = c.in_ok-set_of_size-in-Some.ensures in
    let is : c.in_ok-set_of_size-in-Some.field-0.lg_size ≡ size_after t.lg_size = set.size ∙ size in (
      omega (arith, is, from_five c.args.lg_k t.lg_size c.requires.size),
      omega (arith, set.size, c.in-Some.ensures.some.1),
      subst (λ q. length (coupons_in c.in_ok-set_of_size-in-Some.field-0.buckets) < 2 ^ q) (sym is) (omega (arith, set.count, fewer c.args.lg_k t.lg_size n c.requires.size few)),
    )
