-- SPDX-License-Identifier: Apache-2.0
use Rattle.std.proofs.Common.{ap, ◌∙◌}
use Rattle.hll_coupons.specs.Fold.{pairs}
use Rattle.hll_registers.specs.State.{cleared_state}
use Rattle.hll_registers.specs.Store.{Stored, merge_with}
use Rattle.hll_sketch.proofs.Promoting.{join-zeros}
use Rattle.hll_sketch.proofs.register_folds.fold_of_registers.Goals as goal

pub returns-clause-ok : goal.returns-clause-ok
returns-clause-ok g c =
    let x : Stored = g.R.Registers.stored c.args.source.now in
    c.merge_from.ensures ∙ ap (λ a. merge_with a x.registers) c.in_ok-made.ensures.ok
    ∙ (λ i. record { lg_k = c.args.lg_k; registers = join-zeros c.args.lg_k (pairs x.registers) i; state = cleared_state })
