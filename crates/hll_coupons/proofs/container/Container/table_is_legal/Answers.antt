-- SPDX-License-Identifier: Apache-2.0
use Rattle.std.proofs.Common.{◌≤◌, ◌^◌, length, subst}
use Rattle.hll_coupons.specs.Table.{coupons_in}
use Rattle.hll_coupons.proofs.TableLemmas.{length-coupons_in-table}
use Rattle.hll_coupons.proofs.container.Container.table_is_legal.Goals as goal

pub returns-clause-within : goal.returns-clause-within
returns-clause-within g c =
    subst (λ t. length (coupons_in t.buckets) ≤ 2 ^ t.lg_size) c.self.view_is (length-coupons_in-table _ c.self.invariant.0)
