-- SPDX-License-Identifier: Apache-2.0
use Rattle.std.proofs.Common.{sym, subst, ◌∙◌}
use Rattle.std.proofs.lemmas.Bool.{true≢false}
use Rattle.hll_sketch.specs.Borrowed.{AreEvidentlyCoupons}
use Rattle.hll_sketch.proofs.BorrowedCoupons.{evident_coupons}
use Rattle.hll_sketch.proofs.raw_coupons.compact_coupons.Goals as goal

pub returns-then-are_evidently_coupons-clause-some : goal.returns-then-are_evidently_coupons-clause-some
returns-then-are_evidently_coupons-clause-some c = c.in_ok-coupons.ensures.coupons (evident_coupons _ (c.are_evidently_coupons.ensures.0 c.if-are_evidently_coupons.true))

pub returns-then-are_evidently_coupons-clause-are : goal.returns-then-are_evidently_coupons-clause-are
returns-then-are_evidently_coupons-clause-are c = evident_coupons _ (c.are_evidently_coupons.ensures.0 c.if-are_evidently_coupons.true)

pub returns-else-are_evidently_coupons-clause-none : goal.returns-else-are_evidently_coupons-clause-none
returns-else-are_evidently_coupons-clause-none c = λ has.
    true≢false (sym (c.are_evidently_coupons.ensures.1 (subst AreEvidentlyCoupons (sym c.in_ok-coupons.ensures.raw_coupons) has.evident)) ∙ c.if-are_evidently_coupons.false)
