-- SPDX-License-Identifier: Apache-2.0
use Rattle.std.proofs.Common.{arith, ◌<◌, ◌∙◌, All, sym, subst}
use Rattle.std.proofs.lemmas.List.Elements.{All-from_get_or}
use Rattle.hll_kernels.specs.Packed.{AreRegisters}
use Rattle.hll_registers.specs.FourBits.{unboxed, unpacked, IsPacked}
use Rattle.hll_registers.proofs.FourBitReading.{AgreeAbove, legal, settled}
use Rattle.hll_registers.proofs.nibble_registers.NibbleRegisters.from_parts.Goals as goal

pub from_values-requires-clause-registers : goal.from_values-requires-clause-registers
from_values-requires-clause-registers g c =
    let fits : All (λ b. b < 256) c.args.nibbles.now = All-from_get_or (λ b. b < 256) c.args.nibbles.now 0 (λ i l. (c.type_inv.nibbles i).fits) in
    let parts : AgreeAbove c.args.lg_k c.args.minimum c.args.nibbles.now (unboxed c.args.exceptions) = record { size = c.requires.size; fits = fits; map_for = c.requires.map; agree = c.requires.agree } in
    subst (AreRegisters c.args.lg_k) (sym (c.deref.ensures.value ∙ c.in_ok-values.ensures.ok)) (legal parts)

pub invariant_of-result : goal.invariant_of-result
invariant_of-result g c =
    let fits : All (λ b. b < 256) c.args.nibbles.now = All-from_get_or (λ b. b < 256) c.args.nibbles.now 0 (λ i l. (c.type_inv.nibbles i).fits) in
    let parts : AgreeAbove c.args.lg_k c.args.minimum c.args.nibbles.now (unboxed c.args.exceptions) = record { size = c.requires.size; fits = fits; map_for = c.requires.map; agree = c.requires.agree } in (
      c.requires.least,
      c.requires.most,
      subst (λ bs. IsPacked c.args.lg_k c.args.minimum c.args.zeros bs (unboxed c.args.exceptions) (unpacked c.args.lg_k c.args.minimum bs (unboxed c.args.exceptions))) (sym c.in_ok-from_slice.ensures.items)
          (settled parts _ c.requires.zeros (omega (arith, c.if-zeros-eq0.false))),
    )
