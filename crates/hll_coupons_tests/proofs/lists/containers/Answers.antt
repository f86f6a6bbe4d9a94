-- SPDX-License-Identifier: Apache-2.0
use Rattle.std.proofs.Common.{rules, ◌≡◌, [], ◌∷◌, sym, subst, arith}
use Rattle.hll_coupons.specs.Table.{IsTable}
use Rattle.hll_coupons.proofs.TableLemmas.{IsTable-empty}
use Rattle.hll_coupons_tests.proofs.lists.containers.Goals as goal

pub from_coupons-container-requires-clause-table : goal.from_coupons-container-requires-clause-table
from_coupons-container-requires-clause-table g c =
    let items : c.in_ok-buckets.buckets.items ≡ 0 ∷ [] = search rules in
    subst (λ buckets. IsTable (record { lg_size = 0; buckets = buckets })) (sym items) (IsTable-empty 0 (omega arith))
