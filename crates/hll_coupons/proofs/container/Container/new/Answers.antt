-- SPDX-License-Identifier: Apache-2.0
use Rattle.std.proofs.Common.{◌∙◌, ap, sym, subst, length, ◌^◌}
use Rattle.hll_coupons.specs.Table.{coupons_in, IsTable}
use Rattle.hll_coupons.proofs.Buckets.{coupons_in-replicate}
use Rattle.hll_coupons.proofs.TableLemmas.{IsTable-empty}
use Rattle.hll_coupons.proofs.container.Container.new.Goals as goal

pub invariant_of-result : goal.invariant_of-result
invariant_of-result g c =
    let items = c.in_ok-new.ensures.ok in (
      subst (λ buckets. IsTable (record { lg_size = c.args.lg_size; buckets = buckets })) (sym items) (IsTable-empty c.args.lg_size c.requires),
      sym (ap (λ buckets. length (coupons_in buckets)) items ∙ ap length (coupons_in-replicate (2 ^ c.args.lg_size))),
    )
