-- SPDX-License-Identifier: Apache-2.0
use Rattle.std.proofs.Common.{arith, ◌≡◌, ◌<◌, ◌^◌, ℕ, List, All, length, slice_set, false, ap, sym, subst, ◌∙◌}
use Rattle.std.proofs.lemmas.Bool.{true≢false}
use Rattle.hll_coupons.specs.Cycle.{IsFor}
use Rattle.hll_coupons.specs.Probe.{EndsAt, IsAbsent, IsProbed, Puts, placed}
use Rattle.std.specs.FinSet.{contains}
use Rattle.hll_coupons.specs.Table.{Table, coupons_of}
use Rattle.hll_coupons.proofs.Fillings.{filled_for}
use Rattle.hll_coupons.proofs.Putting.{PutAt, empty_end, ends_as, found_at_bucket, members-put, put_at}
use Rattle.hll_coupons.proofs.Searching.{IsProbed-puts}
use Rattle.hll_coupons.proofs.TableLemmas.{full_of_valued}
use Rattle.hll_coupons.proofs.additions.put_new.Goals as goal

-- no bucket has the coupon
absent : (t : Table) (w : ℕ) → 0 < w → contains (coupons_of t) w ≡ false → IsAbsent (λ c. c) t.buckets w
absent t w some new = λ p within full same. true≢false (sym (found_at_bucket t.buckets p w within same some) ∙ new)

pub end_or_walk-bucket-requires-clause-absent : goal.end_or_walk-bucket-requires-clause-absent
end_or_walk-bucket-requires-clause-absent g c =
    let t : Table = c.args.table.now in
    subst (λ w. IsAbsent (λ c. c) c.buckets.result.now w) (sym c.raw.ensures)
    (subst (λ ps. IsAbsent (λ c. c) ps c.args.coupon) (sym c.buckets.ensures.buckets) (absent t c.args.coupon (full_of_valued c.args.coupon c.requires.valued) c.requires.new))

-- where the search ends
ends : (t : Table) (w lg key bucket : ℕ) (ps : List ℕ) → lg ≡ t.lg_size → ps ≡ t.buckets → key ≡ w → EndsAt (λ c. c) lg ps key bucket → EndsAt (λ c. c) t.lg_size t.buckets w bucket
ends t w lg key bucket ps size buckets is at = ends_as (λ c. c) lg t.lg_size ps t.buckets key w bucket size buckets is at

pub put-requires-clause-empty : goal.put-requires-clause-empty
put-requires-clause-empty g c =
    let t : Table = c.args.table.now in
    let w : ℕ = c.args.coupon in
    empty_end (λ c. c) t.lg_size t.buckets w c.end_or_walk-bucket.result c.requires.set.probed.size (absent t w (full_of_valued w c.requires.valued) c.requires.new)
    (ends t w _ _ c.end_or_walk-bucket.result _ c.lg_size.ensures.size c.buckets.ensures.buckets c.raw.ensures c.end_or_walk-bucket.ensures.ends)

-- the coupon goes there
puts : (t u : Table) (w bucket : ℕ) → 0 < w → contains (coupons_of t) w ≡ false → length t.buckets ≡ 2 ^ t.lg_size → EndsAt (λ c. c) t.lg_size t.buckets w bucket → u ≡ record t { buckets = slice_set t.buckets bucket w } → Puts (λ c. c) t.lg_size t.buckets w u.buckets
puts t u w bucket some new size at is = placed bucket at.first (empty_end (λ c. c) t.lg_size t.buckets w bucket size (absent t w some new) at) (ap (λ (x : Table). x.buckets) is)

pub returns-clause-members : goal.returns-clause-members
returns-clause-members g c =
    let t : Table = c.args.table.now in
    let w : ℕ = c.args.coupon in
    let some : 0 < w = full_of_valued w c.requires.valued in
    let at = ends t w _ _ c.end_or_walk-bucket.result _ c.lg_size.ensures.size c.buckets.ensures.buckets c.raw.ensures c.end_or_walk-bucket.ensures.ends in
    let put : PutAt t.buckets w c.put.new.self.buckets = put_at (λ c. c) t.lg_size t.buckets w c.put.new.self.buckets c.requires.set.probed.size (absent t w some c.requires.new)
    (puts t c.put.new.self w c.end_or_walk-bucket.result some c.requires.new c.requires.set.probed.size at c.put.ensures.buckets) in
    members-put t.buckets w c.put.new.self.buckets some put

pub returns-clause-set : goal.returns-clause-set
returns-clause-set g c =
    let t : Table = c.args.table.now in
    let w : ℕ = c.args.coupon in
    let some : 0 < w = full_of_valued w c.requires.valued in
    let at = ends t w _ _ c.end_or_walk-bucket.result _ c.lg_size.ensures.size c.buckets.ensures.buckets c.raw.ensures c.end_or_walk-bucket.ensures.ends in
    let size : c.put.new.self.lg_size ≡ t.lg_size = ap (λ (u : Table). u.lg_size) c.put.ensures.buckets in
    record {
      table = c.put.ensures.table;
      probed = subst (λ n. IsProbed (λ c. c) n c.put.new.self.buckets) (sym size)
          (IsProbed-puts (λ c. c) t.lg_size t.buckets w c.put.new.self.buckets c.requires.set.probed (λ z. omega (arith, some, z))
          (puts t c.put.new.self w c.end_or_walk-bucket.result some c.requires.new c.requires.set.probed.size at c.put.ensures.buckets));
    }

pub returns-clause-cycles : goal.returns-clause-cycles
returns-clause-cycles g c =
    let t : Table = c.args.table.now in
    let for : All (IsFor t.lg_size t.buckets) c.end_or_walk-bucket.new.self.cycles.items =
    subst (λ n. All (IsFor n t.buckets) c.end_or_walk-bucket.new.self.cycles.items) c.lg_size.ensures.size
    (subst (λ ps. All (IsFor c.lg_size.result ps) c.end_or_walk-bucket.new.self.cycles.items) c.buckets.ensures.buckets c.end_or_walk-bucket.ensures.cycles) in
    subst (λ (u : Table). All (IsFor u.lg_size u.buckets) c.fill.new.self.cycles.items) (sym c.put.ensures.buckets)
    (filled_for t.lg_size c.end_or_walk-bucket.result c.args.coupon t.buckets c.end_or_walk-bucket.new.self.cycles.items c.fill.new.self.cycles.items c.fill.ensures c.buckets.ensures.table.size
    (λ z. omega (arith, z, full_of_valued c.args.coupon c.requires.valued)) for)
