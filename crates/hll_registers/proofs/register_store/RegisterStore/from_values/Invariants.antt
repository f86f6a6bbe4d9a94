-- SPDX-License-Identifier: Apache-2.0
use Rattle.std.proofs.Common.{◌≡◌}
use Rattle.hll_registers.proofs.Filling.{filled}
use Rattle.hll_registers.proofs.register_store.RegisterStore.from_values.Given as goal

-- the registers so far are put, and the others are 0
abbrev pub invariant-loop-slot : goal.invariant-loop-slot
invariant-loop-slot g l = g.Self.Registers.stored l.made ≡ filled l.lg_k l.slot l.values
