-- SPDX-License-Identifier: Apache-2.0
use Rattle.std.proofs.Common.{arith, ◌^◌, ap}
use Rattle.hll_coupons.specs.Keys.{key_of}
use Rattle.hll_coupons.specs.Probe.{EndsAt, Passes, placed}
use Rattle.hll_coupons.specs.Table.{Table}
use Rattle.hll_coupons.proofs.Putting.{absent_fresh, empty_end, ends_as, full_of_passes, passes_as}
use Rattle.hll_coupons.proofs.TableLemmas.{full_of_valued}
use Rattle.hll_coupons.proofs.search.put_entry.Goals as goal

pub unreachable-requires : goal.unreachable-requires
unreachable-requires g c =
    let t : Table = c.args.table.now in
    let passes : Passes (key_of c.args.by) t.lg_size t.buckets (key_of c.args.by c.args.entry) (2 ^ t.lg_size) =
    passes_as (key_of c.args.by) _ _ _ _ _ _ c.lg_size.ensures.size c.buckets-buckets.ensures.buckets c.of.ensures c.in_default.ensures.full in
    omega (arith, c.requires.room, full_of_passes (key_of c.args.by) t.lg_size t.buckets (key_of c.args.by c.args.entry) c.requires.probed.size passes)

pub put-requires-clause-inside : goal.put-requires-clause-inside
put-requires-clause-inside g c =
    (ends_as (key_of c.args.by) _ _ _ _ _ _ _ c.lg_size.ensures.size c.buckets-buckets.ensures.buckets c.of.ensures c.in-Some.ensures.found).within

pub put-requires-clause-empty : goal.put-requires-clause-empty
put-requires-clause-empty g c =
    let t : Table = c.args.table.now in
    let ends : EndsAt (key_of c.args.by) t.lg_size t.buckets (key_of c.args.by c.args.entry) c.in-Some.bucket =
    ends_as (key_of c.args.by) _ _ _ _ _ _ _ c.lg_size.ensures.size c.buckets-buckets.ensures.buckets c.of.ensures c.in-Some.ensures.found in
    empty_end (key_of c.args.by) t.lg_size t.buckets (key_of c.args.by c.args.entry) c.in-Some.bucket c.requires.probed.size c.requires.absent ends

pub put-requires-clause-fresh : goal.put-requires-clause-fresh
put-requires-clause-fresh g c = absent_fresh (key_of c.args.by) c.args.table.now.buckets c.args.entry (full_of_valued c.args.entry c.requires.valued) c.requires.absent

pub returns-clause-buckets : goal.returns-clause-buckets
returns-clause-buckets g c =
    let t : Table = c.args.table.now in
    let ends : EndsAt (key_of c.args.by) t.lg_size t.buckets (key_of c.args.by c.args.entry) c.in-Some.bucket =
    ends_as (key_of c.args.by) _ _ _ _ _ _ _ c.lg_size.ensures.size c.buckets-buckets.ensures.buckets c.of.ensures c.in-Some.ensures.found in
    placed c.in-Some.bucket ends.first
    (empty_end (key_of c.args.by) t.lg_size t.buckets (key_of c.args.by c.args.entry) c.in-Some.bucket c.requires.probed.size c.requires.absent ends)
    (ap (λ (t : Table). t.buckets) c.put.ensures.buckets)
