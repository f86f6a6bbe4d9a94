-- SPDX-License-Identifier: Apache-2.0
use Rattle.std.proofs.Common.{arith, ℕ, ◌≡◌, ◌<◌, ◌≤◌, ◌^◌, false, sym, subst, length}
use Rattle.std.specs.FinSet.{contains, insert, len}
use Rattle.hll_coupons.specs.Table.{Table, coupons_in, coupons_of}
use Rattle.hll_coupons.proofs.Insertions.{within_buckets}
use Rattle.hll_coupons.proofs.TableLemmas.{length-coupons_in-table}
use Rattle.hll_coupons.proofs.hash_set.HashSet.update.Goals as goal

pub unreachable-requires : goal.unreachable-requires
unreachable-requires g c =
    let t : Table = c.self.inside.container in
    let w : ℕ = c.args.coupon in
    let room = subst (λ (u : Table). contains (coupons_of u) w ≡ false → length (coupons_in u.buckets) < 2 ^ u.lg_size) (sym c.self.view_is) c.requires.room in
    let few : len (insert (coupons_of t) w) ≤ 2 ^ t.lg_size = within_buckets t w c.self.invariant.table (length-coupons_in-table t c.self.invariant.table) room in
    let same : len (insert (coupons_of c.args.self.now) w) ≤ 2 ^ t.lg_size = subst (λ (u : Table). len (insert (coupons_of u) w) ≤ 2 ^ t.lg_size) c.self.view_is few in
    omega (arith, c.in-Refused.ensures.insertion, c.capacity-most.ensures, same)
