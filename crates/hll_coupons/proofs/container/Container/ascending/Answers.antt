-- SPDX-License-Identifier: Apache-2.0
use Rattle.hll_coupons.specs.Table.{coupons_in}
use Rattle.hll_coupons.proofs.Ascending.{ascending_from_sort}
use Rattle.hll_coupons.proofs.container.Container.ascending.Goals as goal

pub returns-clause-ok : goal.returns-clause-ok
returns-clause-ok g c =
    ascending_from_sort (coupons_in c.args.self.now.buckets) c.in_ok-coupons.coupons.items c.sort_unstable.new.self.items
    c.in_ok-coupons.ensures.ok c.in_ok-coupons.ensures.distinct c.sort_unstable.ensures.permutation c.sort_unstable.ensures.sorted
