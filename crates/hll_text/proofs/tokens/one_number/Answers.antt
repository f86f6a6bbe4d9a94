-- SPDX-License-Identifier: Apache-2.0
use Rattle.std.proofs.Common.{◌∙◌, ◌∷◌, ap, sym}
use Rattle.std.specs.Option.{option_copied}
use Rattle.hll_text.specs.Text as plan
use Rattle.hll_text.specs.Text.{tokens, tokens_after}
use Rattle.hll_text.proofs.PartLemmas.{length-tokens}
use Rattle.hll_text.proofs.NumberLemmas.{one_number-more}
use Rattle.hll_text.proofs.tokens.one_number.Goals as goal

-- a second token
pub returns-in-Some : goal.returns-in-Some
returns-in-Some c =
    let first = c.in_ok-number.ensures in
    let second = c.in-Some.field-0.now in
    sym (ap plan.one_number (first.1 ∙ ap (λ o. first.0 ∷ tokens_after (option_copied o)) c.in-Some.is)
    ∙ one_number-more first.0 (tokens second) (length-tokens second))
