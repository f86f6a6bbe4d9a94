-- SPDX-License-Identifier: Apache-2.0
use Rattle.std.proofs.Common.{arith, ℕ, All, ap, sym, subst}
use Rattle.hll_coupons.specs.Cycle.{IsFor}
use Rattle.hll_coupons.specs.Keys.{key_of}
use Rattle.hll_coupons.specs.Probe.{EndsAt, placed}
use Rattle.hll_coupons.specs.Table.{Table}
use Rattle.hll_coupons.proofs.Fillings.{filled_for}
use Rattle.hll_coupons.proofs.Putting.{absent_fresh, empty_end, ends_as}
use Rattle.hll_coupons.proofs.TableLemmas.{full_of_valued}
use Rattle.hll_coupons.proofs.filling.put_absent.Goals as goal

pub put-requires-clause-fresh : goal.put-requires-clause-fresh
put-requires-clause-fresh g c = absent_fresh (key_of c.args.by) c.args.table.now.buckets c.args.entry (full_of_valued c.args.entry c.requires.valued) c.requires.absent

pub returns-clause-buckets : goal.returns-clause-buckets
returns-clause-buckets g c =
    let t : Table = c.args.table.now in
    let key : ℕ = key_of c.args.by c.args.entry in
    let ends : EndsAt (key_of c.args.by) t.lg_size t.buckets key c.in_ok-bucket.bucket =
    ends_as (key_of c.args.by) _ _ _ _ _ _ _ c.lg_size.ensures.size c.buckets.ensures.buckets c.of.ensures c.in_ok-bucket.ensures.ends in
    placed c.in_ok-bucket.bucket ends.first (empty_end (key_of c.args.by) t.lg_size t.buckets key c.in_ok-bucket.bucket c.buckets.ensures.table.size c.requires.absent ends)
    (ap (λ (t : Table). t.buckets) c.put.ensures.buckets)

pub returns-clause-cycles : goal.returns-clause-cycles
returns-clause-cycles g c =
    let t : Table = c.args.table.now in
    let for : All (IsFor t.lg_size t.buckets) c.end_of.new.self.cycles.items =
    subst (λ n. All (IsFor n t.buckets) c.end_of.new.self.cycles.items) c.lg_size.ensures.size
    (subst (λ ps. All (IsFor c.lg_size.result ps) c.end_of.new.self.cycles.items) c.buckets.ensures.buckets c.in_ok-bucket.ensures.cycles) in
    subst (λ (u : Table). All (IsFor u.lg_size u.buckets) c.fill.new.self.cycles.items) (sym c.put.ensures.buckets)
    (filled_for t.lg_size c.in_ok-bucket.bucket c.args.entry t.buckets c.end_of.new.self.cycles.items c.fill.new.self.cycles.items c.fill.ensures c.buckets.ensures.table.size
    (λ z. omega (arith, z, full_of_valued c.args.entry c.requires.valued)) for)
