-- SPDX-License-Identifier: Apache-2.0
use Rattle.std.proofs.Common.{◌≡◌, ◌≤◌, ◌++◌, ℕ, List, length, take, drop, refl, sym, subst, ◌∙◌, arith}
use Rattle.std.proofs.lemmas.List.{take_all, length-take-le}
use Rattle.hll_c.specs.Calls.{PutsCoupons, put, no_room, no_coupons}
use Rattle.hll_c.proofs.Answers.{not_so}
use Rattle.hll_c.proofs.coupons.put_coupons.Goals as goal

pub returns-then-not-are_valid : goal.returns-then-not-are_valid
returns-then-not-are_valid g c =
    let Are = g.C.Coupons.are c.args.coupons.now in
    subst (PutsCoupons Are (g.C.Coupons.raw_coupons c.args.coupons.now) c.args.out.now c.args.out.now) (sym c.number.ensures)
    (no_coupons (not_so c.are_valid.result Are c.if-not-are_valid.true c.are_valid.ensures) refl)

pub returns-then-count-out : goal.returns-then-count-out
returns-then-count-out g c = no_room (c.are_valid.ensures.0 c.if-not-are_valid.false) (omega (arith, c.count-count.ensures, c.if-count-out.true)) refl

pub put_each-requires-clause-are : goal.put_each-requires-clause-are
put_each-requires-clause-are g c = c.are_valid.ensures.0 c.if-not-are_valid.false

pub returns : goal.returns
returns g c =
    let cs : List ℕ = g.C.Coupons.raw_coupons c.args.coupons.now in
    let room : length cs ≤ length c.args.out.now = omega (arith, c.count-count.ensures, c.if-count-out.false) in
    let size : length (take c.count-count.result c.args.out.now) ≡ length cs = length-take-le c.count-count.result c.args.out.now (omega (arith, c.count-count.ensures, room)) ∙ c.count-count.ensures in
    let all : c.put_each.new.out ≡ cs = c.put_each.ensures ∙ take_all (length (take c.count-count.result c.args.out.now)) cs (omega (arith, size)) in
    put (c.are_valid.ensures.0 c.if-not-are_valid.false) room (λ i. all i ++ drop (c.count-count.ensures i) c.args.out.now)
