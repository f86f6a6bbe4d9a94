-- SPDX-License-Identifier: Apache-2.0
use Rattle.std.proofs.lemmas.Result.{IfOk-weaker, IfErr-weaker}
use Rattle.hll_base.specs.declared.error.Reason.TheVariants.{Argument}
use Rattle.std.proofs.Common.{◌≡◌}
use Rattle.hll_c.specs.ByteRegisters.{IsLgKOf, HasLgK}
use Rattle.hll_c.proofs.byte_registers.lg_k_of.Goals as goal

pub returns-clause-ok : goal.returns-clause-ok
returns-clause-ok c = IfOk-weaker c.lg_k_of_count.result _ (IsLgKOf c.args.registers.now) (λ k is. record { is = is.0; size = is.1 }) c.lg_k_of_count.ensures.ok

pub returns-clause-err : goal.returns-clause-err
returns-clause-err c =
    IfErr-weaker c.lg_k_of_count.result _ (λ e. (e ≡ Argument) × (HasLgK c.args.registers.now → ⊥)) (λ e no. (no.0, λ has. no.1 has.lg_k has.of.is has.of.size)) c.lg_k_of_count.ensures.err
