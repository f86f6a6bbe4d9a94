-- SPDX-License-Identifier: Apache-2.0
use Rattle.std.proofs.Common.{◌∙◌, Some, eqb, cond, ap}
use Rattle.hll_registers.proofs.FourBits.{value_in-empty}
use Rattle.hll_registers.proofs.exception_map.one_entry_to_fill.Goals as goal

pub fill_value-requires-clause-none : goal.fill_value-requires-clause-none
fill_value-requires-clause-none g c = value_in-empty c.in_ok-map.map c.args.lg_k c.args.slot c.in_ok-map.ensures.ok

pub returns-clause-values : goal.returns-clause-values
returns-clause-values g c s =
    c.in_ok-fill_value.ensures.values s ∙ ap (λ o. cond (eqb s c.args.slot) (Some c.args.value) o) (value_in-empty c.in_ok-map.map c.args.lg_k s c.in_ok-map.ensures.ok)
