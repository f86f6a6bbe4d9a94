-- SPDX-License-Identifier: Apache-2.0
use Rattle.std.proofs.Common.{arith, ℕ, ◌≡◌, ◌+◌, ◌∙◌, Bool, not, sym, ap, length}
use mir.Val.{bool_byte}
use Rattle.std.specs.FinSet.{contains, insert, len}
use Rattle.hll_coupons.specs.Table.{Table, IsTable, coupons_in, coupons_of}
use Rattle.hll_coupons.proofs.Insertions.{counted}
use Rattle.hll_coupons.proofs.Members.{insert-member}
use Rattle.hll_coupons.proofs.list.List.update_within.Goals as goal

-- the coupons with this one are counted
all : (t u : Table) (w n extra : ℕ) (held : Bool) → IsTable t → n ≡ length (coupons_in t.buckets) → extra ≡ bool_byte (not held) → held ≡ contains (coupons_of u) w → t ≡ u →
    n + extra ≡ len (insert (coupons_of u) w)
all t u w n extra held table count one is same =
    counted t w n extra (not held) table count one (ap not (is ∙ ap (λ (v : Table). contains (coupons_of v) w) (sym same)))
    ∙ ap (λ (v : Table). len (insert (coupons_of v) w)) same

pub returns-then-len-from-clause-insertion : goal.returns-then-len-from-clause-insertion
returns-then-len-from-clause-insertion g c =
    omega (arith, all c.self.inside.container c.args.self.now c.args.coupon c.len.result c.from.result c.contains-is_new.result c.len.ensures.table c.len.ensures.count c.from.ensures c.contains-is_new.ensures c.self.view_is, c.if-len-from.true)

pub returns-then-not-is_new-clause-insertion : goal.returns-then-not-is_new-clause-insertion
returns-then-not-is_new-clause-insertion g c = (
  sym c.contains-is_new.ensures ∙ c.if-not-is_new.true,
  omega (arith, all c.self.inside.container c.args.self.now c.args.coupon c.len.result c.from.result c.contains-is_new.result c.len.ensures.table c.len.ensures.count c.from.ensures c.contains-is_new.ensures c.self.view_is, c.if-len-from.false),
)

pub returns-then-not-is_new-clause-members : goal.returns-then-not-is_new-clause-members
returns-then-not-is_new-clause-members g c = sym (insert-member (coupons_of c.args.self.now) c.args.coupon (sym c.contains-is_new.ensures ∙ c.if-not-is_new.true))

pub returns-clause-insertion : goal.returns-clause-insertion
returns-clause-insertion g c = (
  sym c.contains-is_new.ensures ∙ c.if-not-is_new.false,
  omega (arith, all c.self.inside.container c.args.self.now c.args.coupon c.len.result c.from.result c.contains-is_new.result c.len.ensures.table c.len.ensures.count c.from.ensures c.contains-is_new.ensures c.self.view_is, c.if-len-from.false),
)
