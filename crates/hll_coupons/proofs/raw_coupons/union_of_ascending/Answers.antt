-- SPDX-License-Identifier: Apache-2.0
use Rattle.std.proofs.Common.{sym, subst}
use Rattle.std.specs.FinSet.{union}
use Rattle.hll_coupons.specs.Coupons.{coupon_bytes, WritesAscending}
use Rattle.hll_coupons.specs.Pair.{set_of}
use Rattle.hll_coupons.proofs.Merging.{writes_next, writes_all}
use Rattle.hll_coupons.proofs.raw_coupons.union_of_ascending.Goals as goal

pub loop-raw_coupon-preserved : goal.loop-raw_coupon-preserved
loop-raw_coupon-preserved g c =
    writes_next c.args.left c.args.right c.loop-raw_coupon.coupons c.loop-raw_coupon.left c.loop-raw_coupon.right c.loop-raw_coupon.invariant c.in-Some.raw_coupon c.write_u32_le.new.self c.pass.new.self
    c.pass-in-Some.new.self c.in-Some.ensures.some c.in_ok-write_u32_le.ensures.ok c.pass.ensures c.pass-in-Some.ensures

pub returns-clause-ok : goal.returns-clause-ok
returns-clause-ok g c =
    let none = c.in_default.ensures.none in
    subst (WritesAscending coupon_bytes (union (set_of c.args.left) (set_of c.args.right))) (sym c.into_bytes.ensures)
    (writes_all c.args.left c.args.right c.loop-raw_coupon.coupons c.loop-raw_coupon.left c.loop-raw_coupon.right c.loop-raw_coupon.invariant none.0 none.1)
