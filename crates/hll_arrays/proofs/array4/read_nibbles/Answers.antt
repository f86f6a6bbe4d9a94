-- SPDX-License-Identifier: Apache-2.0
use Rattle.std.proofs.Common.{◌≡◌, ◌⊎◌, List, ℕ, inl, inr, sym, ap, ◌∙◌}
use Rattle.std.proofs.lemmas.Result.{IfErr-weaker}
use Rattle.hll_base.specs.declared.error.Reason.TheVariants.{Memory}
use Rattle.hll_registers.specs.Payload.{Hll4Shape, shape_of_hll4, state_at, Hll4Fault}
use Rattle.hll_registers.specs.Store.{Stored}
use Rattle.hll_arrays.proofs.FourBitWholes.{fault_of_first, registers-front}
use Rattle.hll_arrays.proofs.ReadingRegisters.{IfOk-both}
use Rattle.hll_arrays.proofs.array4.read_nibbles.Goals as goal

pub returns-clause-err : goal.returns-clause-err
returns-clause-err g c =
    let h : Hll4Shape = shape_of_hll4 c.args.lg_config_k c.args.cur_min c.args.aux_format in
    IfErr-weaker c.read_slice.result _ (λ e. (e ≡ Memory) ⊎ Hll4Fault h c.args.cursor e)
    (λ e is. elim is [ inl memory ↦ inl memory | inr first ↦ inr (fault_of_first h c.args.cursor e first) ]) c.read_slice.ensures.err

pub returns-clause-ok : goal.returns-clause-ok
returns-clause-ok g c =
    let h : Hll4Shape = shape_of_hll4 c.args.lg_config_k c.args.cur_min c.args.aux_format in
    let stored : List ℕ → Stored = λ R. record { lg_k = c.args.lg_config_k; registers = R; state = state_at c.args.ooo c.args.cursor } in
    IfOk-both c.read_slice.result _ _ _ (λ r payload registers. (payload.1, registers ∙ ap stored (sym (registers-front h c.args.cursor payload.0)))) c.read_slice.ensures.payload c.read_slice.ensures.registers
