-- SPDX-License-Identifier: Apache-2.0
use Rattle.std.proofs.Common.{subst}
use Rattle.hll_registers.specs.Store.{IsStored}
use Rattle.hll_arrays.proofs.array8.Array8.lg_k.Goals as goal

pub returns-clause-legal : goal.returns-clause-legal
returns-clause-legal g c = subst IsStored c.self.view_is (record { low = c.self.invariant.0; high = c.self.invariant.1; registers = c.self.invariant.2; state = c.self.invariant.3 })
