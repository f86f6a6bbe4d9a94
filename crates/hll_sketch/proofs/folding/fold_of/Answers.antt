-- SPDX-License-Identifier: Apache-2.0
use Rattle.std.proofs.Common.{◌≡◌, IfOk, sym, ap, subst, ◌∙◌}
use Rattle.hll_coupons.specs.Fold.{fold_to}
use Rattle.hll_coupons.specs.Table.{coupons_of}
use Rattle.hll_registers.specs.State.{cleared_state}
use Rattle.hll_sketch.specs.Layout.{layout_of, content_in}
use Rattle.hll_sketch.specs.Value.{pairs_in}
use Rattle.hll_sketch.proofs.folding.fold_of.Goals as goal

pub returns-in-List-clause-ok : goal.returns-in-List-clause-ok
returns-in-List-clause-ok g c =
    subst (λ P. IfOk c.registers_of_table.result (λ a. a ≡ record { lg_k = c.args.lg_k; registers = fold_to P c.args.lg_k; state = cleared_state }))
    (ap coupons_of c.container.ensures.same ∙ ap (λ m. pairs_in (content_in (layout_of m))) (sym c.in-List.is)) c.registers_of_table.ensures.ok
