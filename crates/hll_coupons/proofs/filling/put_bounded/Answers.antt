-- SPDX-License-Identifier: Apache-2.0
use Rattle.std.proofs.Common.{ℕ, ap}
use Rattle.hll_coupons.specs.Keys.{key_of}
use Rattle.hll_coupons.specs.Probe.{EndsAt, placed}
use Rattle.hll_coupons.specs.Table.{Table}
use Rattle.hll_coupons.proofs.Putting.{absent_fresh, empty_end, ends_as}
use Rattle.hll_coupons.proofs.TableLemmas.{full_of_valued}
use Rattle.hll_coupons.proofs.filling.put_bounded.Goals as goal

pub put-requires-clause-fresh : goal.put-requires-clause-fresh
put-requires-clause-fresh g c = absent_fresh (key_of c.args.by) c.args.table.now.buckets c.args.entry (full_of_valued c.args.entry c.requires.valued) c.requires.absent

pub returns-clause-buckets : goal.returns-clause-buckets
returns-clause-buckets g c =
    let t : Table = c.args.table.now in
    let key : ℕ = key_of c.args.by c.args.entry in
    let ends : EndsAt (key_of c.args.by) t.lg_size t.buckets key c.in-Some.bucket =
    ends_as (key_of c.args.by) _ _ _ _ _ _ _ c.lg_size.ensures.size c.buckets-buckets.ensures.buckets c.of.ensures c.in-Some.ensures.found in
    placed c.in-Some.bucket ends.first (empty_end (key_of c.args.by) t.lg_size t.buckets key c.in-Some.bucket c.buckets-buckets.ensures.table.size c.requires.absent ends)
    (ap (λ (t : Table). t.buckets) c.put.ensures.buckets)
