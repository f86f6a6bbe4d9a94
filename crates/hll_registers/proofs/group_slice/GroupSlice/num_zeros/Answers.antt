-- SPDX-License-Identifier: Apache-2.0
use Rattle.std.proofs.Common.{arith}
use Rattle.hll_kernels.proofs.Grouping.{few-AreGroups}
use Rattle.hll_registers.proofs.group_slice.GroupSlice.num_zeros.Goals as goal

pub count_zeros_in-requires : goal.count_zeros_in-requires
count_zeros_in-requires c =
    let x = c.self.inside in
    omega (arith, few-AreGroups x.lg_k x.groups.now c.self.invariant.1 c.self.invariant.2)

pub overflow_cast-result : goal.overflow_cast-result
overflow_cast-result c =
    let x = c.self.inside in
    omega (arith, c.count_zeros_in.ensures.bound, few-AreGroups x.lg_k x.groups.now c.self.invariant.1 c.self.invariant.2)
