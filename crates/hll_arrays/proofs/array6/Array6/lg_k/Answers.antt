-- SPDX-License-Identifier: Apache-2.0
use Rattle.std.proofs.Common.{subst, arith}
use Rattle.hll_registers.specs.Store.{IsStored}
use Rattle.hll_kernels.proofs.Grouping.{AreRegisters-registers_in}
use Rattle.hll_arrays.proofs.array6.Array6.lg_k.Goals as goal

pub returns-clause-legal : goal.returns-clause-legal
returns-clause-legal g c =
    subst IsStored c.self.view_is
    (record { low = c.self.invariant.0; high = c.self.invariant.1; registers = AreRegisters-registers_in c.self.inside.lg_config_k c.self.inside.groups.items (omega (arith, c.self.invariant.0)) c.self.invariant.2; state = c.self.invariant.3 })
