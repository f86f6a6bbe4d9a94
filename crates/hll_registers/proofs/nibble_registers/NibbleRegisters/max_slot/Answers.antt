-- SPDX-License-Identifier: Apache-2.0
use Rattle.std.proofs.Common.{arith, ◌∙◌, sym, ap}
use Rattle.hll_registers.specs.FourBits.{NibbleRegisters}
use Rattle.hll_kernels.specs.Packed.{minimum, count_at_minimum}
use Rattle.hll_registers.proofs.FourBits.{packed_is_of_registers}
use Rattle.hll_registers.proofs.FourBitChanges.{left_after}
use Rattle.hll_registers.proofs.nibble_registers.NibbleRegisters.max_slot.Goals as goal

pub rise-requires-clause-at : goal.rise-requires-clause-at
rise-requires-clause-at g c =
    sym c.get.ensures.register ∙ c.if-at_minimum.true ∙ (packed_is_of_registers _ _ _ _ _ _ c.self.invariant.1 c.self.invariant.2).minimum_is
    ∙ ap (λ (x : NibbleRegisters). minimum x.registers) c.self.view_is

pub rise-requires-clause-only : goal.rise-requires-clause-only
rise-requires-clause-only g c =
    sym ((packed_is_of_registers _ _ _ _ _ _ c.self.invariant.1 c.self.invariant.2).count_is ∙ ap (λ (x : NibbleRegisters). count_at_minimum x.registers) c.self.view_is)
    ∙ c.if-self-eq1.true

pub put_high-requires-clause-high : goal.put_high-requires-clause-high
put_high-requires-clause-high g c =
    omega (arith, c.if-value-self.true, (packed_is_of_registers _ _ _ _ _ _ c.self.invariant.1 c.self.invariant.2).minimum_is ∙ ap (λ (x : NibbleRegisters). minimum x.registers) c.self.view_is)

pub put_high-requires-clause-left : goal.put_high-requires-clause-left
put_high-requires-clause-left g c =
    left_after _ _ _ _ _ c.self.invariant.1 c.self.invariant.2 c.args.self.now c.self.view_is c.args.slot c.args.value (record { within = c.requires.within; more = c.requires.more; most = c.requires.most }) c.get.result c.from.result c.get.ensures.register c.from.ensures

pub put_low-requires-clause-low : goal.put_low-requires-clause-low
put_low-requires-clause-low g c =
    omega (arith, c.if-value-self.false, (packed_is_of_registers _ _ _ _ _ _ c.self.invariant.1 c.self.invariant.2).minimum_is ∙ ap (λ (x : NibbleRegisters). minimum x.registers) c.self.view_is)

pub put_low-requires-clause-left : goal.put_low-requires-clause-left
put_low-requires-clause-left g c =
    left_after _ _ _ _ _ c.self.invariant.1 c.self.invariant.2 c.args.self.now c.self.view_is c.args.slot c.args.value (record { within = c.requires.within; more = c.requires.more; most = c.requires.most }) c.get.result c.from.result c.get.ensures.register c.from.ensures
