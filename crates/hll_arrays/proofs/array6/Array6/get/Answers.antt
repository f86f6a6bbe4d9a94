-- SPDX-License-Identifier: Apache-2.0
use Rattle.std.proofs.Common.{◌≡◌, List, ℕ, ◌*◌, ◌^◌, length, ap, arith}
use Rattle.hll_registers.specs.Store.{Stored}
use Rattle.hll_kernels.proofs.Grouping.{size-AreGroups}
use Rattle.hll_arrays.proofs.array6.Array6.get.Goals as goal

pub register_at-requires : goal.register_at-requires
register_at-requires g c =
    let G : List (List ℕ) = c.self.inside.groups.items in
    let size : 4 * length G ≡ 2 ^ c.self.inside.lg_config_k = size-AreGroups c.self.inside.lg_config_k G (omega (arith, c.self.invariant.0)) c.self.invariant.2 in
    omega (arith, c.requires, ap length c.deref.ensures.value, size, ap (λ (x : Stored). 2 ^ x.lg_k) c.self.view_is)
