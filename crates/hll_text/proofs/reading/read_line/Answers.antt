-- SPDX-License-Identifier: Apache-2.0
use Rattle.std.proofs.Common.{◌≡◌, ◌++◌, ◌∙◌, ap, sym, codes, Some}
use Rattle.std.proofs.lemmas.Bool.Decides.{Decides-eqb}
use Rattle.std.proofs.lemmas.Slice.Eq.{strip_prefix_is}
use Rattle.hll_text.specs.Text as plan
use Rattle.hll_text.specs.Text.{as_reading, reading}
use Rattle.hll_text.proofs.NumberLemmas.{reading-taken}
use Rattle.hll_text.proofs.reading.read_line.Goals as goal

pub returns-in-Some-strip_prefix-clause-reading : goal.returns-in-Some-strip_prefix-clause-reading
returns-in-Some-strip_prefix-clause-reading g c =
    let token = c.in-Some-strip_prefix.token.now in
    let front : c.args.line.now ≡ c.as_slice-2.result.now ++ token = strip_prefix_is Decides-eqb c.args.line.now c.as_slice-2.result.now (Some c.in-Some-strip_prefix.token) c.in-Some-strip_prefix.ensures.cases in
    let whole : c.args.line.now ≡ codes "image " ++ token = front ∙ ap (λ p. p ++ token) c.as_slice-2.ensures in
    c.image_line.ensures.reading ∙ ap reading (sym whole)

pub returns-clause-reading : goal.returns-clause-reading
returns-clause-reading g c =
    c.read_tokens.ensures.reading ∙ ap (λ ws. as_reading (plan.read_tokens ws)) (sym c.split_token.ensures)
    ∙ reading-taken c.args.line.now (sym c.if-is_empty.ensures) c.if-line-eq35.false
