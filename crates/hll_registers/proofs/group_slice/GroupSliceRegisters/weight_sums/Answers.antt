-- SPDX-License-Identifier: Apache-2.0
use Rattle.std.proofs.Common.{arith}
use Rattle.hll_kernels.proofs.Grouping.{few-AreGroups}
use Rattle.hll_registers.proofs.group_slice.GroupSliceRegisters.weight_sums.Goals as goal

pub weight_sums_in-requires : goal.weight_sums_in-requires
weight_sums_in-requires c =
    let x = c.self.inside in
    omega (arith, few-AreGroups x.lg_k x.groups.now c.self.invariant.1 c.self.invariant.2)
