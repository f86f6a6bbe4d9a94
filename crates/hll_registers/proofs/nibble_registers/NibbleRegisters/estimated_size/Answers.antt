-- SPDX-License-Identifier: Apache-2.0
use Rattle.std.proofs.Common.{◌≡◌, ◌≤◌, ◌+◌, ◌^◌, ◌∙◌, length, arith, ap}
use Rattle.std.proofs.Math.Pow.{pow_mono}
use Rattle.hll_base.specs.declared.hll_type.HllType.TheVariants.{Hll4}
use Rattle.hll_registers.specs.FourBits.{NibbleRegisters}
use Rattle.hll_registers.specs.Store.{size_in_registers}
use Rattle.hll_registers.proofs.FourBitStores.{size_is}
use Rattle.hll_registers.proofs.nibble_registers.NibbleRegisters.estimated_size.Goals as goal

pub overflow_add-result : goal.overflow_add-result
overflow_add-result g c =
    let few : 2 ^ c.self.inside.lg_k ≤ 2 ^ 21 = pow_mono c.self.invariant.1 in
    record { fits = omega (arith, c.len.ensures, few, c.self.invariant.2.size, c.bytes_of_buckets.ensures.bound c.self.inside.lg_k c.self.invariant.2.map_for) }

pub returns : goal.returns
returns g c =
    let bytes : c.len.result ≡ length c.self.inside.nibbles.items = omega (arith, c.len.ensures) in
    (λ i. bytes i + c.bytes_of_buckets.ensures.size c.self.inside.lg_k c.self.invariant.2.map_for i)
    ∙ size_is _ _ _ _ _ _ c.self.invariant.0 c.self.invariant.1 c.self.invariant.2
    ∙ ap (λ (x : NibbleRegisters). size_in_registers x.lg_k Hll4 x.registers) c.self.view_is
