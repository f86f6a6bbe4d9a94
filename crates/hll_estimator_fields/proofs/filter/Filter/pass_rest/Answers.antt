-- SPDX-License-Identifier: Apache-2.0
use Rattle.std.proofs.Common.{◌≡◌, ◌∷◌, [], ℕ, List, length, Bool, false, sym, ap, ◌∙◌}
use Rattle.std.specs.Prelude.{◌==◌}
use Rattle.hll_text.specs.Text.{line_of_rest}
use Rattle.hll_estimator_fields.proofs.PassingLemmas.{Passes-of, Passes-one, Stops-of, Stops-one, Stops-same, one_rest}
use Rattle.hll_estimator_fields.proofs.filter.Filter.pass_rest.Goals as goal

-- the line of bytes that are there, under another name
the_line : (bytes last : List ℕ) (empty : Bool) → last ≡ bytes → empty ≡ (length last == 0) → empty ≡ false → last ∷ [] ≡ line_of_rest bytes
the_line bytes last empty is test some = sym (one_rest last (sym test ∙ some)) ∙ ap line_of_rest is

pub returns-in-Ok : goal.returns-in-Ok
returns-in-Ok g c = (
  c.saturating_add-number.result,
  Passes-of _ _ _ _ _ _ _ (the_line _ _ _ c.as_slice-last.ensures.value c.is_empty.ensures c.if-is_empty.false) (Passes-one _ _ c.as_slice-last.result.now _ _ _ c.saturating_add-number.ensures c.in-Ok.ensures),
)

pub returns : goal.returns
returns g c =
    Stops-same _ _ _ _ _ _ _ (sym c.at.ensures)
    (Stops-of _ _ _ _ _ _ _ (the_line _ _ _ c.as_slice-last.ensures.value c.is_empty.ensures c.if-is_empty.false) (Stops-one _ _ c.as_slice-last.result.now _ _ _ c.in-Err.fault c.saturating_add-number.ensures c.in-Err.ensures))
