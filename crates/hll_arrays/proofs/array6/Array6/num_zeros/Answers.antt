-- SPDX-License-Identifier: Apache-2.0
use Rattle.std.proofs.Common.{List, ℕ, length, ap, arith}
use Rattle.hll_kernels.proofs.Grouping.{few-AreGroups}
use Rattle.hll_arrays.proofs.array6.Array6.num_zeros.Goals as goal

pub count_zeros_in-requires : goal.count_zeros_in-requires
count_zeros_in-requires g c =
    let G : List (List ℕ) = c.self.inside.groups.items in
    omega (arith, ap length c.deref.ensures.value, few-AreGroups c.self.inside.lg_config_k G c.self.invariant.1 c.self.invariant.2)

pub overflow_cast-result : goal.overflow_cast-result
overflow_cast-result g c =
    let G : List (List ℕ) = c.self.inside.groups.items in
    omega (arith, c.count_zeros_in.ensures.bound, ap length c.deref.ensures.value, few-AreGroups c.self.inside.lg_config_k G c.self.invariant.1 c.self.invariant.2)
