-- SPDX-License-Identifier: Apache-2.0
use Rattle.std.proofs.Common.{arith}
use Rattle.hll_kernels.proofs.Grouping.{few-AreGroups}
use Rattle.hll_registers.proofs.group_slice.GroupSlice.image_parts.Goals as goal

pub of_groups-requires-clause-few : goal.of_groups-requires-clause-few
of_groups-requires-clause-few c =
    let x = c.self.inside in
    omega (arith, few-AreGroups x.lg_k x.groups.now c.self.invariant.1 c.self.invariant.2)
