-- SPDX-License-Identifier: Apache-2.0
use Rattle.std.proofs.Common.{◌≡◌, ◌∙◌, ◌^◌, ℕ, length, ap, subst, sym}
use Rattle.std.specs.Prelude.{replicate}
use Rattle.hll_coupons.specs.Storage.{buckets_in}
use Rattle.hll_coupons.specs.Table.{IsTable, coupons_in}
use Rattle.hll_coupons.proofs.Buckets.{coupons_in-replicate}
use Rattle.hll_coupons.proofs.TableLemmas.{IsTable-empty}
use Rattle.hll_coupons.proofs.container.Container.clear.Goals as goal

pub invariant_of-self : goal.invariant_of-self
invariant_of-self g c =
    let lg : ℕ = c.self.inside.lg_size in
    let empty : buckets_in c.clear.new.self ≡ replicate (2 ^ lg) 0 = c.clear.ensures ∙ ap (λ n. replicate n 0) c.self.invariant.0.size in (
      subst (λ ps. IsTable (record { lg_size = lg; buckets = ps })) (sym empty) (IsTable-empty lg c.self.invariant.0.small),
      sym (ap (λ ps. length (coupons_in ps)) empty ∙ ap length (coupons_in-replicate (2 ^ lg))),
    )
