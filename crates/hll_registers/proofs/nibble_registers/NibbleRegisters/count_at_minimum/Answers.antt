-- SPDX-License-Identifier: Apache-2.0
use Rattle.std.proofs.Common.{◌∙◌, ap}
use Rattle.hll_registers.specs.FourBits.{NibbleRegisters}
use Rattle.hll_kernels.specs.Packed.{count_at_minimum}
use Rattle.hll_registers.proofs.FourBits.{packed_is_of_registers}
use Rattle.hll_registers.proofs.nibble_registers.NibbleRegisters.count_at_minimum.Goals as goal

pub returns : goal.returns
returns g c = (packed_is_of_registers _ _ _ _ _ _ c.self.invariant.1 c.self.invariant.2).count_is ∙ ap (λ (x : NibbleRegisters). count_at_minimum x.registers) c.self.view_is
