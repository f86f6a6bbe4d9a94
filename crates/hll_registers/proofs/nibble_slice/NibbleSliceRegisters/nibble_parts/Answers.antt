-- SPDX-License-Identifier: Apache-2.0
use Rattle.std.proofs.Common.{refl, subst}
use Rattle.hll_registers.specs.FourBits.{unboxed, ArePartsOf}
use Rattle.hll_registers.specs.Store.{Stored}
use Rattle.hll_registers.proofs.nibble_slice.NibbleSliceRegisters.nibble_parts.Goals as goal

pub returns : goal.returns
returns g c =
    let x = c.self.inside in
    subst (λ (l : Stored). ArePartsOf l.lg_k x.minimum x.nibbles.now c.entries_of.result l.registers) c.self.view_is (record {
      exceptions = unboxed x.exceptions;
      entries_are = c.entries_of.ensures;
      size = c.self.invariant.2;
      fits = c.self.invariant.3;
      map_for = c.self.invariant.4;
      agree = c.self.invariant.5;
      registers_are = refl;
    })
