-- SPDX-License-Identifier: Apache-2.0
use Rattle.std.proofs.Common.{ap, sym, subst, ◌∙◌, ◌<◌, ◌≡◌, ◌++◌, ◌-◌, take, replicate, length, vec_len, arith}
use Rattle.std.specs.List.Sorted.{IsStrictlyIncreasing}
use Rattle.hll_coupons.specs.Pair.{set_of}
use Rattle.hll_coupons.specs.Table.{coupons_of}
use Rattle.hll_coupons.proofs.Batches.{IsTableFrom, table_from}
use Rattle.hll_coupons.proofs.batch.CouponBatch.to_table.Given.{Over}
use Rattle.hll_coupons.proofs.batch.CouponBatch.to_table.Goals as goal

-- the ascending coupons are in the first buckets
made : (g : Over) (c : goal.In_ok-resize g) → IsTableFrom c.lg_size_above-lg_size.result c.sort.new.self c.resize.new.self.items
made g c =
    let order = c.self.inside.coupons in
    let lg_size = c.lg_size_above-lg_size in
    let is : order.items ≡ c.sort.new.self = c.self.view_is in
    let room : c.len-count.result < c.buckets_of-size.result = omega (arith, lg_size.ensures.more, c.buckets_of-size.ensures) in
    subst (λ xs. IsTableFrom lg_size.result xs c.resize.new.self.items) is
    (table_from lg_size.result c.buckets_of-size.result c.len-count.result order.items c.resize.new.self.items (subst IsStrictlyIncreasing (sym is) c.sort.ensures.ascending.increasing) c.self.invariant.0
    c.buckets_of-size.ensures (c.len-count.ensures ∙ order.ok.0) room lg_size.ensures.small buckets)
  where
    copied : c.extend_from_slice.new.self.items ≡ c.self.inside.coupons.items
    copied = c.in_ok-extend_from_slice.ensures.items ∙ (λ i. c.in_ok-buckets.ensures.items i ++ c.deref.ensures.value i)

    buckets : c.resize.new.self.items ≡ take c.buckets_of-size.result c.self.inside.coupons.items ++ replicate (c.buckets_of-size.result - c.len-count.result) 0
    buckets =
        let count : vec_len c.extend_from_slice.new.self ≡ c.len-count.result =
        c.extend_from_slice.new.self.ok.0 ∙ ap length copied ∙ sym (c.len-count.ensures ∙ c.self.inside.coupons.ok.0) in
        c.in_ok-resize.ensures.items ∙ (λ i. take c.buckets_of-size.result (copied i) ++ replicate (c.buckets_of-size.result - count i) 0)

pub from_coupons-requires-clause-table : goal.from_coupons-requires-clause-table
from_coupons-requires-clause-table g c = (made g c).table

pub from_coupons-requires-clause-count : goal.from_coupons-requires-clause-count
from_coupons-requires-clause-count g c = c.len-count.ensures ∙ c.self.inside.coupons.ok.0 ∙ ap length (c.self.view_is ∙ sym (made g c).order_is)

pub returns-clause-ok : goal.returns-clause-ok
returns-clause-ok g c =
    ap coupons_of c.from_coupons.ensures ∙ ap set_of (made g (c.before)).order_is ∙ c.sort.ensures.ascending.members
