-- SPDX-License-Identifier: Apache-2.0
use Rattle.std.proofs.Common.{ℕ, ◌<◌, ◌^◌, ◌∙◌, sym, ap, subst, slice_index}
use Rattle.hll_registers.specs.FourBits.{NibbleRegisters, exception_of, unpacked, unboxed}
use Rattle.hll_kernels.specs.Packed.{minimum}
use Rattle.hll_registers.proofs.FourBits.{packed_is_of_registers}
use Rattle.hll_registers.proofs.nibble_registers.NibbleRegisters.exception.Goals as goal

pub returns : goal.returns
returns g c =
    let slot : ℕ = c.args.slot in
    let within : slot < 2 ^ c.self.inside.lg_k = subst (λ (x : NibbleRegisters). slot < 2 ^ x.lg_k) (sym c.self.view_is) c.requires in
    c.exception_at.ensures.value ∙ c.self.invariant.2.excepted slot within
    ∙ ap (λ m. exception_of m (slice_index (unpacked c.self.inside.lg_k c.self.inside.minimum c.self.inside.nibbles.items (unboxed c.self.inside.exceptions)) slot)) (packed_is_of_registers _ _ _ _ _ _ c.self.invariant.1 c.self.invariant.2).minimum_is
    ∙ ap (λ (x : NibbleRegisters). exception_of (minimum x.registers) (slice_index x.registers slot)) c.self.view_is
