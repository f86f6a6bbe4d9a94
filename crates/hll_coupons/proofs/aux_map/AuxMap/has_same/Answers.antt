-- SPDX-License-Identifier: Apache-2.0
use Rattle.std.proofs.Common.{◌≡◌, ◌∙◌, sym, ap, nat_eq}
use Rattle.std.specs.FinSet.{len}
use Rattle.std.proofs.lemmas.Bool.{eqb-true, false_from_ne_true}
use Rattle.hll_coupons.specs.AuxMap.{ExceptionMap}
use Rattle.hll_coupons.specs.Table.{coupons_of}
use Rattle.hll_coupons.proofs.Sizes.{same-part, other-sizes}
use Rattle.hll_coupons.proofs.aux_map.AuxMap.has_same.Goals as goal

pub returns-then-len : goal.returns-then-len
returns-then-len g c =
    let left : c.len.result ≡ len (coupons_of c.args.self.now.table) = c.len.ensures.count ∙ sym c.self.invariant.table.distinct ∙ ap (λ (m : ExceptionMap). len (coupons_of m.table)) c.self.view_is in
    let right : c.len-2.result ≡ len (coupons_of c.args.other.now.table) = c.len-2.ensures.count ∙ sym c.other.invariant.table.distinct ∙ ap (λ (m : ExceptionMap). len (coupons_of m.table)) c.other.view_is in
    c.has_all.ensures ∙ same-part c.args.self.now.table c.args.other.now.table (sym left ∙ c.if-len.true ∙ right)

pub returns-else-len : goal.returns-else-len
returns-else-len g c =
    let left : c.len.result ≡ len (coupons_of c.args.self.now.table) = c.len.ensures.count ∙ sym c.self.invariant.table.distinct ∙ ap (λ (m : ExceptionMap). len (coupons_of m.table)) c.self.view_is in
    let right : c.len-2.result ≡ len (coupons_of c.args.other.now.table) = c.len-2.ensures.count ∙ sym c.other.invariant.table.distinct ∙ ap (λ (m : ExceptionMap). len (coupons_of m.table)) c.other.view_is in
    false_from_ne_true (nat_eq c.len.result c.len-2.result) (λ e. c.if-len.false (eqb-true c.len.result c.len-2.result e))
    ∙ sym (other-sizes c.args.self.now.table c.args.other.now.table (λ same. c.if-len.false (left ∙ same ∙ sym right)))
