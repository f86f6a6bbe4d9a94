-- SPDX-License-Identifier: Apache-2.0
use Rattle.std.proofs.Common.{arith, ◌≡◌, ◌+◌, ◌*◌, ◌^◌, ◌<◌, ◌∙◌, ℕ, suc, sym, ap, subst, map, length, get_or, set}
use Rattle.std.proofs.Math.Nat.{pow-suc}
use Rattle.std.specs.FinSet.{len}
use Rattle.hll_coupons.specs.Pair.{slot_of, set_of}
use Rattle.hll_coupons.specs.Probe.{IsProbed, PutsEach}
use Rattle.hll_coupons.specs.Table.{Table, IsTable, coupons_in, empty_table}
use Rattle.hll_coupons.proofs.Maps.{distinct_slots}
use Rattle.hll_coupons.proofs.Putting.{PutAt, put_at, length-put, members-put, undone}
use Rattle.hll_coupons.proofs.Searching.{IsProbed-puts}
use Rattle.hll_coupons.proofs.TableLemmas.{full_of_valued}
use Rattle.hll_coupons.proofs.aux_map.put_growing.Goals as goal

pub put_all-requires-clause-room : goal.put_all-requires-clause-room
put_all-requires-clause-room g c =
    let some : 0 < c.args.entry = full_of_valued c.args.entry c.requires.valued in
    let put : PutAt c.args.table.now.buckets c.args.entry c.put_entry-bucket.new.table.buckets =
    put_at slot_of c.args.table.now.lg_size c.args.table.now.buckets c.args.entry c.put_entry-bucket.new.table.buckets c.requires.probed.size c.requires.absent c.put_entry-bucket.ensures.buckets in
    let size : c.in_ok-larger.larger.lg_size ≡ c.args.table.now.lg_size + 1 = ap (λ (t : Table). t.lg_size) c.in_ok-larger.ensures.ok ∙ ap (λ n. n + 1) c.lg_size.ensures.size in
    let twice : 2 ^ c.in_ok-larger.larger.lg_size ≡ 2 * 2 ^ c.args.table.now.lg_size =
    ap (λ n. 2 ^ n) size ∙ ap (λ n. 2 ^ n) (let s : c.args.table.now.lg_size + 1 ≡ suc c.args.table.now.lg_size = omega arith in s) ∙ omega (arith, pow-suc 2 c.args.table.now.lg_size) in
    omega (arith, twice, c.requires.room, ap (λ ps. length (coupons_in ps)) c.buckets.ensures.buckets, length-put c.args.table.now.buckets c.args.entry c.put_entry-bucket.new.table.buckets some put)

pub put_all-requires-clause-distinct : goal.put_all-requires-clause-distinct
put_all-requires-clause-distinct g c =
    let some : 0 < c.args.entry = full_of_valued c.args.entry c.requires.valued in
    subst (λ ps. len (set_of (map slot_of (coupons_in ps))) ≡ length (coupons_in ps)) (sym c.buckets.ensures.buckets)
    (distinct_slots c.put_entry-bucket.new.table c.put_entry-bucket.ensures.table
    (subst (λ n. IsProbed slot_of n c.put_entry-bucket.new.table.buckets) (sym c.put_entry-bucket.ensures.size)
    (IsProbed-puts slot_of c.args.table.now.lg_size c.args.table.now.buckets c.args.entry c.put_entry-bucket.new.table.buckets c.requires.probed (λ z. omega (arith, some, z)) c.put_entry-bucket.ensures.buckets)))

pub returns-in-Ok-clause-ok : goal.returns-in-Ok-clause-ok
returns-in-Ok-clause-ok g c =
    let larger : Table = c.in_ok-larger.larger in
    let size : larger.lg_size ≡ c.args.table.now.lg_size + 1 = ap (λ (t : Table). t.lg_size) c.in_ok-larger.ensures.ok ∙ ap (λ n. n + 1) c.lg_size.ensures.size in
    let buckets : larger.buckets ≡ (empty_table larger.lg_size).buckets = ap (λ (t : Table). t.buckets) c.in_ok-larger.ensures.ok ∙ ap (λ n. (empty_table n).buckets) (sym (ap (λ (t : Table). t.lg_size) c.in_ok-larger.ensures.ok)) in
    let moved : PutsEach slot_of larger.lg_size (empty_table larger.lg_size).buckets (coupons_in c.put_entry-bucket.new.table.buckets) c.put_all.new.into.buckets =
    subst (λ ps. PutsEach slot_of larger.lg_size ps (coupons_in c.put_entry-bucket.new.table.buckets) c.put_all.new.into.buckets) buckets
    (subst (λ ps. PutsEach slot_of larger.lg_size larger.buckets (coupons_in ps) c.put_all.new.into.buckets) c.buckets.ensures.buckets c.in-Ok.ensures.buckets) in
    record {
      buckets = c.put_entry-bucket.new.table.buckets;
      put = c.put_entry-bucket.ensures.buckets;
      size = c.in-Ok.ensures.size ∙ size;
      moved = subst (λ n. PutsEach slot_of n (empty_table n).buckets (coupons_in c.put_entry-bucket.new.table.buckets) c.put_all.new.into.buckets) (sym c.in-Ok.ensures.size) moved;
    }

pub returns-in-Ok-clause-members : goal.returns-in-Ok-clause-members
returns-in-Ok-clause-members g c =
    c.in-Ok.ensures.members ∙ ap (λ ps. set_of (coupons_in ps)) c.buckets.ensures.buckets
    ∙ members-put c.args.table.now.buckets c.args.entry c.put_entry-bucket.new.table.buckets (full_of_valued c.args.entry c.requires.valued)
    (put_at slot_of c.args.table.now.lg_size c.args.table.now.buckets c.args.entry c.put_entry-bucket.new.table.buckets c.requires.probed.size c.requires.absent c.put_entry-bucket.ensures.buckets)

pub returns-in-Ok-clause-count : goal.returns-in-Ok-clause-count
returns-in-Ok-clause-count g c =
    c.in-Ok.ensures.count ∙ ap (λ ps. length (coupons_in ps)) c.buckets.ensures.buckets
    ∙ length-put c.args.table.now.buckets c.args.entry c.put_entry-bucket.new.table.buckets (full_of_valued c.args.entry c.requires.valued)
    (put_at slot_of c.args.table.now.lg_size c.args.table.now.buckets c.args.entry c.put_entry-bucket.new.table.buckets c.requires.probed.size c.requires.absent c.put_entry-bucket.ensures.buckets)

-- the table as it was, once the bucket is emptied again
as_it_was : (t put : Table) (bucket entry : ℕ) → put.lg_size ≡ t.lg_size → put.buckets ≡ set t.buckets bucket entry → get_or t.buckets bucket 0 ≡ 0 → record { lg_size = put.lg_size; buckets = set put.buckets bucket 0 } ≡ t
as_it_was t put bucket entry size at empty i = record {
  lg_size = size i;
  buckets = (ap (λ ps. set ps bucket 0) at ∙ undone t.buckets bucket entry empty) i;
}

pub take_out-requires-clause-table : goal.take_out-requires-clause-table
take_out-requires-clause-table g c =
    subst IsTable (sym (as_it_was c.args.table.now c.put_entry-bucket.new.table c.put_entry-bucket.result c.args.entry c.put_entry-bucket.ensures.size c.put_entry-bucket.ensures.at c.put_entry-bucket.ensures.empty))
    c.table_is_legal.ensures.table

pub take_out-requires-clause-count : goal.take_out-requires-clause-count
take_out-requires-clause-count g c =
    length-put c.args.table.now.buckets c.args.entry c.put_entry-bucket.new.table.buckets (full_of_valued c.args.entry c.requires.valued)
    (put_at slot_of c.args.table.now.lg_size c.args.table.now.buckets c.args.entry c.put_entry-bucket.new.table.buckets c.requires.probed.size c.requires.absent c.put_entry-bucket.ensures.buckets)
    ∙ ap (λ (t : Table). length (coupons_in t.buckets) + 1)
    (sym (as_it_was c.args.table.now c.put_entry-bucket.new.table c.put_entry-bucket.result c.args.entry c.put_entry-bucket.ensures.size c.put_entry-bucket.ensures.at c.put_entry-bucket.ensures.empty))

pub returns-in-Err-clause-unchanged : goal.returns-in-Err-clause-unchanged
returns-in-Err-clause-unchanged g c =
    c.take_out.ensures ∙ as_it_was c.args.table.now c.put_entry-bucket.new.table c.put_entry-bucket.result c.args.entry c.put_entry-bucket.ensures.size c.put_entry-bucket.ensures.at c.put_entry-bucket.ensures.empty
