-- SPDX-License-Identifier: Apache-2.0
use Rattle.std.proofs.Common.{◌+◌, ◌∙◌, ap, sym, ◌∷◌, take}
use Rattle.hll_text.specs.Text.{tokens}
use Rattle.hll_text.proofs.PartLemmas.{tokens-some, tokens-none, take-rest}
use Rattle.hll_text.proofs.tokens.split_token.Goals as goal

pub returns-in-None : goal.returns-in-None
returns-in-None c = tokens-none c.args.line.now (sym c.in-None.ensures)

pub returns-in-Some : goal.returns-in-Some
returns-in-Some c =
    tokens-some c.args.line.now c.in-Some.at (sym c.in-Some.ensures)
    ∙ ap (λ ws. take c.in-Some.at c.args.line.now ∷ tokens ws) (sym (take-rest (c.in-Some.at + 1) c.args.line.now))
