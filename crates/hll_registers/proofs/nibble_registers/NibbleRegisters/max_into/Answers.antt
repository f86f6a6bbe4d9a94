-- SPDX-License-Identifier: Apache-2.0
use Rattle.std.proofs.Common.{◌^◌, ◌∙◌, ◌<◌, ℕ, length, take, drop, sym, ap, subst}
use Rattle.hll_base.specs.Join.{join}
use Rattle.hll_kernels.specs.Packed.{nibble_at}
use Rattle.hll_registers.specs.FourBits.{exception_in, NibbleRegisters, unboxed, unpacked}
use Rattle.hll_registers.specs.Payload.{Agrees}
use Rattle.hll_registers.proofs.FourBitReading.{agree_above}
use Rattle.hll_registers.proofs.nibble_registers.NibbleRegisters.max_into.Goals as goal

pub max_with_registers-requires-clause-agree : goal.max_with_registers-requires-clause-agree
max_with_registers-requires-clause-agree g c =
    let x = c.self.inside in
    subst (λ bs. (s : ℕ) → s < 2 ^ x.lg_k → Agrees x.minimum (nibble_at bs s) (exception_in (unboxed x.exceptions) s)) (sym c.deref.ensures.value) (agree_above _ _ _ _ _ _ c.self.invariant.2).agree

pub returns : goal.returns
returns g c =
    let x = c.self.inside in
    let V = c.args.values.now in
    c.max_with_registers.ensures ∙ ap (λ bs. join V (take (length V) (drop c.args.first (unpacked x.lg_k x.minimum bs (unboxed x.exceptions))))) c.deref.ensures.value
    ∙ ap (λ (z : NibbleRegisters). join V (take (length V) (drop c.args.first z.registers))) c.self.view_is
