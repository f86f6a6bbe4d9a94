-- SPDX-License-Identifier: Apache-2.0
use Rattle.std.proofs.Common.{◌≡◌, ◌*◌, ◌^◌, length, ap, arith}
use Rattle.hll_kernels.proofs.Grouping.{size-AreGroups}
use Rattle.hll_registers.specs.Store.{Stored}
use Rattle.hll_registers.proofs.group_slice.GroupSliceRegisters.get.Goals as goal

pub register_at-requires : goal.register_at-requires
register_at-requires c =
    let x = c.self.inside in
    let size : 4 * length x.groups.now ≡ 2 ^ x.lg_k = size-AreGroups x.lg_k x.groups.now (omega (arith, c.self.invariant.0)) c.self.invariant.2 in
    omega (arith, c.requires, size, ap (λ (l : Stored). 2 ^ l.lg_k) c.self.view_is)
