-- SPDX-License-Identifier: Apache-2.0
use Rattle.std.proofs.Common.{arith}
use Rattle.hll_kernels.proofs.Grouping.{few-AreGroups}
use Rattle.hll_registers.proofs.group_slice.GroupSlice.zeros_and_sums.Goals as goal

pub zeros_and_sums_in-zeros-requires : goal.zeros_and_sums_in-zeros-requires
zeros_and_sums_in-zeros-requires c =
    let x = c.self.inside in
    omega (arith, few-AreGroups x.lg_k x.groups.now c.self.invariant.1 c.self.invariant.2)

pub overflow_cast-result : goal.overflow_cast-result
overflow_cast-result c =
    let x = c.self.inside in
    omega (arith, c.zeros_and_sums_in-zeros.ensures.bound, few-AreGroups x.lg_k x.groups.now c.self.invariant.1 c.self.invariant.2)
