-- SPDX-License-Identifier: Apache-2.0
use Rattle.std.proofs.Common.{arith, ◌≤◌, ◌^◌, subst}
use Rattle.hll_coupons.proofs.TableLemmas.{length-coupons_in-table}
use Rattle.hll_coupons.proofs.container.Container.len.Goals as goal

pub returns-clause-within : goal.returns-clause-within
returns-clause-within g c =
    subst (λ t. c.self.inside.len ≤ 2 ^ t.lg_size) c.self.view_is (omega (arith, c.self.invariant.1, length-coupons_in-table _ c.self.invariant.0))
