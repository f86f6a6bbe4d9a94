-- SPDX-License-Identifier: Apache-2.0
use Rattle.std.proofs.Common.{arith, ap, sym, subst, ◌∙◌, length}
use Rattle.hll_coupons.specs.Storage.{buckets_in}
use Rattle.hll_coupons.specs.Table.{coupons_in, IsTable}
use Rattle.hll_coupons.proofs.Buckets.{coupons_in-replicate}
use Rattle.hll_coupons.proofs.TableLemmas.{IsTable-empty}
use Rattle.hll_coupons.proofs.container.Container.eight.Goals as goal

pub invariant_of-result : goal.invariant_of-result
invariant_of-result g c = (
  subst (λ n. IsTable (record { lg_size = n; buckets = buckets_in c.eight.result })) (sym c.from.ensures)
      (subst (λ buckets. IsTable (record { lg_size = 3; buckets = buckets })) (sym c.eight.ensures) (IsTable-empty 3 (omega arith))),
  sym (ap (λ buckets. length (coupons_in buckets)) c.eight.ensures ∙ ap length (coupons_in-replicate 8)),
)
