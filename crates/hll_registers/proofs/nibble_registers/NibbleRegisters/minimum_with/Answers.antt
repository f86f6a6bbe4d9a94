-- SPDX-License-Identifier: Apache-2.0
use Rattle.std.proofs.Common.{arith, ◌≡◌, ◌∙◌, ap}
use Rattle.hll_kernels.specs.Packed.{minimum}
use Rattle.hll_registers.specs.FourBits.{NibbleRegisters}
use Rattle.hll_registers.proofs.FourBits.{packed_is_of_registers}
use Rattle.hll_registers.proofs.nibble_registers.NibbleRegisters.minimum_with.Goals as goal

pub returns-then-least-self : goal.returns-then-least-self
returns-then-least-self g c =
    let least : c.self.inside.minimum ≡ minimum c.args.self.now.registers =
    (packed_is_of_registers _ _ _ _ _ _ c.self.invariant.1 c.self.invariant.2).minimum_is ∙ ap (λ (x : NibbleRegisters). minimum x.registers) c.self.view_is in
    omega (arith, c.minimum_of_nibbles_with-least.ensures, c.if-least-self.true, least)
