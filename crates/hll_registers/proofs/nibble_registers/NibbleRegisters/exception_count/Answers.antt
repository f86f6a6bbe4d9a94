-- SPDX-License-Identifier: Apache-2.0
use Rattle.std.proofs.Common.{◌∙◌, ap}
use Rattle.std.specs.FinSet.{len}
use Rattle.hll_coupons.specs.Pair.{set_of}
use Rattle.hll_registers.specs.Exceptions.{exceptions}
use Rattle.hll_registers.specs.FourBits.{NibbleRegisters}
use Rattle.hll_registers.proofs.FourBits.{packed_is_of_registers}
use Rattle.hll_registers.proofs.nibble_registers.NibbleRegisters.exception_count.Goals as goal

pub returns-clause-count : goal.returns-clause-count
returns-clause-count g c =
    c.count_exceptions.ensures.count c.self.inside.lg_k c.self.invariant.2.map_for ∙ ap len (packed_is_of_registers _ _ _ _ _ _ c.self.invariant.1 c.self.invariant.2).exceptions_are
    ∙ ap (λ (x : NibbleRegisters). len (set_of (exceptions x.registers))) c.self.view_is

pub returns-clause-bound : goal.returns-clause-bound
returns-clause-bound g c = c.count_exceptions.ensures.bound c.self.inside.lg_k c.self.invariant.2.map_for
