-- SPDX-License-Identifier: Apache-2.0
use Rattle.std.proofs.Common.{◌≡◌, ◌∙◌, sym, ap, nat_eq}
use Rattle.std.specs.FinSet.{len}
use Rattle.std.proofs.lemmas.Bool.{eqb-true, false_from_ne_true}
use Rattle.hll_coupons.specs.Table.{coupons_of}
use Rattle.hll_coupons.proofs.Sizes.{same-part, other-sizes}
use Rattle.hll_coupons.proofs.hash_set.HashSetPartialEq.eq.Goals as goal

pub returns-then-len : goal.returns-then-len
returns-then-len g c =
    let left : c.len.result ≡ len (coupons_of c.args.self.now) = c.len.ensures.count ∙ sym c.self.invariant.table.distinct ∙ ap (λ t. len (coupons_of t)) c.self.view_is in
    let right : c.len-2.result ≡ len (coupons_of c.args.other.now) = c.len-2.ensures.count ∙ sym c.other.invariant.table.distinct ∙ ap (λ t. len (coupons_of t)) c.other.view_is in
    c.contains_all.ensures ∙ same-part c.args.self.now c.args.other.now (sym left ∙ c.if-len.true ∙ right)

pub returns-else-len : goal.returns-else-len
returns-else-len g c =
    let left : c.len.result ≡ len (coupons_of c.args.self.now) = c.len.ensures.count ∙ sym c.self.invariant.table.distinct ∙ ap (λ t. len (coupons_of t)) c.self.view_is in
    let right : c.len-2.result ≡ len (coupons_of c.args.other.now) = c.len-2.ensures.count ∙ sym c.other.invariant.table.distinct ∙ ap (λ t. len (coupons_of t)) c.other.view_is in
    false_from_ne_true (nat_eq c.len.result c.len-2.result) (λ e. c.if-len.false (eqb-true c.len.result c.len-2.result e))
    ∙ sym (other-sizes c.args.self.now c.args.other.now (λ same. c.if-len.false (left ∙ same ∙ sym right)))
