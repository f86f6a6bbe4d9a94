-- SPDX-License-Identifier: Apache-2.0
use Rattle.std.proofs.Common.{subst}
use Rattle.hll_registers.specs.FourBits.{unboxed}
use Rattle.hll_registers.specs.Store.{IsStored}
use Rattle.hll_registers.proofs.FourBitReading.{AgreeAbove, legal}
use Rattle.hll_registers.proofs.nibble_slice.NibbleSliceRegisters.lg_k.Goals as goal

pub returns-clause-legal : goal.returns-clause-legal
returns-clause-legal g c =
    let x = c.self.inside in
    let parts : AgreeAbove x.lg_k x.minimum x.nibbles.now (unboxed x.exceptions) = record { size = c.self.invariant.2; fits = c.self.invariant.3; map_for = c.self.invariant.4; agree = c.self.invariant.5 } in
    subst IsStored c.self.view_is
    (record { low = c.self.invariant.0; high = c.self.invariant.1; registers = legal parts; state = c.self.invariant.7 })
