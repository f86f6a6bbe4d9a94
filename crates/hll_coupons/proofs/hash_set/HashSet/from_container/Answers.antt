-- SPDX-License-Identifier: Apache-2.0
use Rattle.std.proofs.Common.{◌≡◌, ◌∙◌, ap, map, length, subst, sym}
use Rattle.std.specs.FinSet.{len}
use Rattle.std.proofs.lemmas.List.{map-id}
use Rattle.hll_coupons.specs.Pair.{set_of}
use Rattle.hll_coupons.specs.Probe.{PutsEach}
use Rattle.hll_coupons.specs.Table.{Table, coupons_in}
use Rattle.hll_coupons.proofs.hash_set.HashSet.from_container.Goals as goal

pub put_all-requires-clause-distinct : goal.put_all-requires-clause-distinct
put_all-requires-clause-distinct g c =
    subst (λ ps. len (set_of (map (λ c. c) (coupons_in ps))) ≡ length (coupons_in ps)) (sym c.buckets.ensures.buckets)
    (ap (λ cs. len (set_of cs)) (map-id (coupons_in c.args.coupons.now.buckets)) ∙ c.buckets.ensures.table.distinct)

pub returns-clause-buckets : goal.returns-clause-buckets
returns-clause-buckets g c =
    subst (λ (t : Table). PutsEach (λ c. c) t.lg_size t.buckets (coupons_in c.args.coupons.now.buckets) c.put_all.new.into.buckets) c.in_ok-container.ensures.ok
    (subst (λ ps. PutsEach (λ c. c) c.in_ok-container.container.lg_size c.in_ok-container.container.buckets (coupons_in ps) c.put_all.new.into.buckets) c.buckets.ensures.buckets c.in_ok-put_all.ensures.buckets)
