-- SPDX-License-Identifier: Apache-2.0
use Rattle.std.proofs.Common.{◌≡◌, ◌^◌, ◌≤◌, ◌<◌, ℕ, List, None, length, sym, ap, subst, ◌∙◌, arith}
use Rattle.std.specs.FinSet.{len, union}
use Rattle.hll_coupons.specs.Pair.{Pairs}
use Rattle.hll_coupons.specs.Table.{Table, coupons_in, coupons_of}
use Rattle.hll_coupons.proofs.Unions.{len_union_le}
use Rattle.hll_registers.specs.Store.{Stored}
use Rattle.hll_sketch.specs.Adding.{content_for}
use Rattle.hll_sketch.specs.Laws.{add_in_turn}
use Rattle.hll_sketch.specs.Stage.{stage}
use Rattle.hll_sketch.specs.Union.{sketch_of_registers}
use Rattle.hll_sketch.specs.Value.{Sketch}
use Rattle.hll_sketch.proofs.LargerTables.{IsLarger, larger, raised}
use Rattle.hll_sketch.proofs.promotion.mode_of_both.Goals as goal

pub from_container-requires-clause-small : goal.from_container-requires-clause-small
from_container-requires-clause-small g c =
    let is : IsLarger c.args.lg_k c.args.count c.in-Some.size = larger c.args.lg_k c.args.table.now.lg_size c.args.count c.in-Some.size c.requires.size c.requires.overflows (ap (λ p. stage c.args.lg_k p c.args.count) (sym c.lg_size.ensures.size) ∙ sym c.in-Some.ensures) in
    omega (arith, c.from.ensures, is.high, c.requires.lg_k.high)

pub from_container-requires-clause-room : goal.from_container-requires-clause-room
from_container-requires-clause-room g c =
    let is : IsLarger c.args.lg_k c.args.count c.in-Some.size = larger c.args.lg_k c.args.table.now.lg_size c.args.count c.in-Some.size c.requires.size c.requires.overflows (ap (λ p. stage c.args.lg_k p c.args.count) (sym c.lg_size.ensures.size) ∙ sym c.in-Some.ensures) in
    let t : Table = c.args.table.now in
    subst (λ q. length (coupons_in t.buckets) ≤ 2 ^ q) (sym c.from.ensures)
    (omega (arith, is.few, c.requires.count, len_union_le (coupons_of t) (coupons_of c.args.others.now), c.table_is_legal.ensures.table.distinct))

pub update_each-requires : goal.update_each-requires
update_each-requires g c =
    let is : IsLarger c.args.lg_k c.args.count c.in-Some.size = larger c.args.lg_k c.args.table.now.lg_size c.args.count c.in-Some.size c.requires.size c.requires.overflows (ap (λ p. stage c.args.lg_k p c.args.count) (sym c.lg_size.ensures.size) ∙ sym c.in-Some.ensures) in
    let set = c.in_ok-set-in-Some.ensures in
    subst (λ n. len (union (coupons_of c.in_ok-set-in-Some.set) (coupons_of c.args.others.now)) ≤ 2 ^ n) (sym (set.size ∙ c.from.ensures))
    (omega (arith, is.few, c.requires.count, ap (λ P. len (union P (coupons_of c.args.others.now))) set.members))

pub returns-in_ok-array-in-None-clause-content : goal.returns-in_ok-array-in-None-clause-content
returns-in_ok-array-in-None-clause-content g c =
    let k : ℕ = c.args.lg_k in
    let S : Pairs = coupons_of c.args.table.now in
    let order : List ℕ = coupons_in c.args.others.now.buckets in
    let none : stage k c.args.table.now.lg_size (len (union S (coupons_of c.args.others.now))) ≡ None =
    ap (stage k c.args.table.now.lg_size) (sym c.requires.count) ∙ ap (λ p. stage k p c.args.count) (sym c.lg_size.ensures.size) ∙ sym c.in-None.ensures in
    ap (λ (x : Sketch). x.content) (c.add_each_to.ensures.added ∙ ap (λ (x : Stored). add_in_turn (sketch_of_registers x) order) c.in_ok-array-in-None.ensures.ok ∙ raised k S order)
    ∙ ap (content_for k (union S (coupons_of c.args.others.now))) (sym none)

pub returns-in_ok-set-in-Some-clause-layout : goal.returns-in_ok-set-in-Some-clause-layout
returns-in_ok-set-in-Some-clause-layout g c =
    let is : IsLarger c.args.lg_k c.args.count c.in-Some.size = larger c.args.lg_k c.args.table.now.lg_size c.args.count c.in-Some.size c.requires.size c.requires.overflows (ap (λ p. stage c.args.lg_k p c.args.count) (sym c.lg_size.ensures.size) ∙ sym c.in-Some.ensures) in
    let new : Table = c.update_each.new.self in
    let set = c.in_ok-set-in-Some.ensures in
    let size : new.lg_size ≡ c.in-Some.size = c.update_each.ensures.size ∙ set.size ∙ c.from.ensures in (
      omega (arith, size, is.low),
      omega (arith, size, is.high),
      subst (λ n. length (coupons_in new.buckets) < 2 ^ n) (sym size)
          (omega (arith, is.few, c.requires.count, c.table_is_legal-in-Some.ensures.table.distinct, ap (λ (t : Table). length (coupons_in t.buckets)) c.container.ensures.same, ap (λ (t : Table). len (coupons_of t)) c.container.ensures.same, ap len c.update_each.ensures.members, ap (λ P. len (union P (coupons_of c.args.others.now))) set.members)),
    )
