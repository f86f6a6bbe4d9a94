-- SPDX-License-Identifier: Apache-2.0
use Rattle.std.proofs.Common.{List, ℕ, length, ap, arith}
use Rattle.hll_kernels.proofs.Grouping.{few-AreGroups}
use Rattle.hll_arrays.proofs.array6.Array6Registers.weight_sums.Goals as goal

pub weight_sums_in-requires : goal.weight_sums_in-requires
weight_sums_in-requires g c =
    let G : List (List ℕ) = c.self.inside.groups.items in
    omega (arith, ap length c.deref.ensures.value, few-AreGroups c.self.inside.lg_config_k G c.self.invariant.1 c.self.invariant.2)
