-- SPDX-License-Identifier: Apache-2.0
use Rattle.std.proofs.Common.{◌≡◌, ◌++◌, ◌∷◌, [], ℕ, List, sym, ap, ◌∙◌}
use Rattle.std.specs.Str.Lines.{strip_carriage_return}
use Rattle.hll_estimator_fields.proofs.PassingLemmas.{Stops-one, Stops-same, StopsLine-of}
use Rattle.hll_estimator_fields.proofs.filter.Filter.end_line.Goals as goal

pub returns-in-Err-pass_line : goal.returns-in-Err-pass_line
returns-in-Err-pass_line g c =
    let line : List ℕ = strip_carriage_return (c.args.self.now.pending.items ++ c.args.bytes.now) in
    let is : c.without_return-line.result.now ≡ line = c.without_return-line.ensures ∙ ap strip_carriage_return (c.as_slice.ensures.value ∙ c.in_default.ensures.items) in
    Stops-same _ (line ∷ []) _ _ _ _ _ (sym c.at-in-Err-pass_line.ensures)
    (Stops-one c.args.self.now.count c.saturating_add-self.result line _ _ _ c.in-Err-pass_line.fault c.saturating_add-self.ensures (StopsLine-of _ line _ _ _ _ is c.in-Err-pass_line.ensures))
