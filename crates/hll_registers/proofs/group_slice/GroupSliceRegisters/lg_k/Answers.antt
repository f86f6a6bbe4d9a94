-- SPDX-License-Identifier: Apache-2.0
use Rattle.std.proofs.Common.{subst, arith}
use Rattle.hll_kernels.proofs.Grouping.{AreRegisters-registers_in}
use Rattle.hll_registers.specs.Store.{IsStored}
use Rattle.hll_registers.proofs.group_slice.GroupSliceRegisters.lg_k.Goals as goal

pub returns-clause-legal : goal.returns-clause-legal
returns-clause-legal c =
    let x = c.self.inside in
    subst IsStored c.self.view_is
    (record { low = c.self.invariant.0; high = c.self.invariant.1; registers = AreRegisters-registers_in x.lg_k x.groups.now (omega (arith, c.self.invariant.0)) c.self.invariant.2; state = c.self.invariant.3 })
