-- SPDX-License-Identifier: Apache-2.0
use Rattle.std.proofs.Common.{◌∙◌, ◌∷◌, ap, sym}
use Rattle.std.specs.Option.{option_copied}
use Rattle.hll_text.specs.Text as plan
use Rattle.hll_text.specs.Text.{tokens, tokens_after}
use Rattle.hll_text.proofs.PartLemmas.{length-tokens}
use Rattle.hll_text.proofs.NumberLemmas.{two_numbers-more}
use Rattle.hll_text.proofs.tokens.two_numbers.Goals as goal

-- a third token
pub returns-in-Some : goal.returns-in-Some
returns-in-Some c =
    let first = c.in_ok-first.ensures in
    let second = c.in_ok-second.ensures in
    let third = c.in-Some.field-0.now in
    sym (ap plan.two_numbers (first.1 ∙ ap (λ ws. first.0 ∷ ws) (second.1 ∙ ap (λ o. second.0 ∷ tokens_after (option_copied o)) c.in-Some.is))
    ∙ two_numbers-more first.0 second.0 (tokens third) (length-tokens third))
