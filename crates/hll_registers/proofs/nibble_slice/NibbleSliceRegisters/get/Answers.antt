-- SPDX-License-Identifier: Apache-2.0
use Rattle.std.proofs.Common.{◌<◌, ◌^◌, get_or, sym, ap, subst, ◌∙◌}
use Rattle.hll_registers.specs.FourBits.{unboxed}
use Rattle.hll_registers.specs.Store.{Stored}
use Rattle.hll_registers.proofs.FourBitReading.{unpacked-at}
use Rattle.hll_registers.proofs.nibble_slice.NibbleSliceRegisters.get.Goals as goal

pub returns : goal.returns
returns g c =
    let x = c.self.inside in
    let within : c.args.slot < 2 ^ x.lg_k = subst (λ (l : Stored). c.args.slot < 2 ^ l.lg_k) (sym c.self.view_is) c.requires in
    c.register_at.ensures ∙ sym (unpacked-at x.lg_k x.minimum x.nibbles.now (unboxed x.exceptions) c.args.slot within) ∙ ap (λ (l : Stored). get_or l.registers c.args.slot 0) c.self.view_is
