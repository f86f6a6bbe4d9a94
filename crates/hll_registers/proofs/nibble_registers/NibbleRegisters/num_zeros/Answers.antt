-- SPDX-License-Identifier: Apache-2.0
use Rattle.std.proofs.Common.{◌∙◌, ap, sym, eqb}
use Rattle.std.proofs.lemmas.Bool.{cond-false, false_from_ne_true, eqb-true}
use Rattle.hll_registers.specs.FourBits.{NibbleRegisters}
use Rattle.hll_kernels.specs.Packed.{zeros}
use Rattle.hll_registers.proofs.FourBits.{zeros_packed}
use Rattle.hll_registers.proofs.nibble_registers.NibbleRegisters.num_zeros.Goals as goal

pub returns-else-self-eq0 : goal.returns-else-self-eq0
returns-else-self-eq0 g c =
    sym (cond-false (eqb c.self.inside.minimum 0) c.self.inside.count_at_minimum 0 (false_from_ne_true _ (λ e. c.if-self-eq0.false (eqb-true c.self.inside.minimum 0 e))))
    ∙ zeros_packed _ _ _ _ _ _ c.self.invariant.2 ∙ ap (λ (x : NibbleRegisters). zeros x.registers) c.self.view_is
