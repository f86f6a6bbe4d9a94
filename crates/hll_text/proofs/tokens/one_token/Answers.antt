-- SPDX-License-Identifier: Apache-2.0
use Rattle.std.proofs.Common.{◌≡◌, ◌+◌, ◌∙◌, ap, sym, drop, take}
use Rattle.std.specs.Option.{option_copied}
use Rattle.hll_text.specs.Text as plan
use Rattle.hll_text.specs.Text.{tokens, tokens_after}
use Rattle.hll_text.proofs.PartLemmas.{tokens-none, tokens-some, length-tokens}
use Rattle.hll_text.proofs.NumberLemmas.{one_token-one, one_token-more}
use Rattle.hll_text.proofs.tokens.one_token.Goals as goal

pub returns-in-None : goal.returns-in-None
returns-in-None c =
    let token = c.in-Some.token.now in
    let after : tokens_after (option_copied c.args.rest) ≡ tokens token = ap (λ o. tokens_after (option_copied o)) c.in-Some.is in
    sym (ap plan.one_token (after ∙ tokens-none token (sym c.in-None.ensures)) ∙ one_token-one token (sym c.if-is_empty.ensures))

pub returns-in-Some-first_of : goal.returns-in-Some-first_of
returns-in-Some-first_of c =
    let token = c.in-Some.token.now in
    let at = c.in-Some-first_of.field-0 in
    let more = drop (at + 1) token in
    let after : tokens_after (option_copied c.args.rest) ≡ tokens token = ap (λ o. tokens_after (option_copied o)) c.in-Some.is in
    sym (ap plan.one_token (after ∙ tokens-some token at (sym c.in-Some-first_of.ensures)) ∙ one_token-more (take at token) (tokens more) (length-tokens more))
