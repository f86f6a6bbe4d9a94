-- SPDX-License-Identifier: Apache-2.0
use Rattle.std.proofs.Common.{arith, ◌<◌, ◌^◌, sym, subst}
use Rattle.hll_coupons.specs.Table.{Table}
use Rattle.hll_coupons.proofs.TableLemmas.{small_buckets}
use Rattle.hll_coupons.proofs.container.Container.take_out.Goals as goal

pub set-requires-clause-small : goal.set-requires-clause-small
set-requires-clause-small g c =
    let within : c.args.bucket < 2 ^ c.self.inside.lg_size = subst (λ (t : Table). c.args.bucket < 2 ^ t.lg_size) (sym c.self.view_is) c.requires.inside in
    omega (arith, within, c.self.invariant.0.size, small_buckets _ c.self.invariant.0)
