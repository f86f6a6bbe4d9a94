-- SPDX-License-Identifier: Apache-2.0
use Rattle.std.proofs.Common.{◌<◌, ◌+◌, ℕ, List, ◌∷◌, length, take, Ok, sym, ap, refl, ◌∙◌, arith}
use Rattle.std.specs.Option.{option_copied}
use Rattle.std.proofs.lemmas.Bool.{ne_eqb}
use Rattle.hll_text.specs.Text.{tokens, tokens_after, first_number}
use Rattle.hll_text.proofs.LeadingLemmas.{number_of_digits, tokens_of_digits, tokens_of_front, first_is_no_number}
use Rattle.hll_text.proofs.PartLemmas.{take-rest}
use Rattle.hll_text.proofs.tokens.next_number.Goals as goal

pub returns-then-digits-text : goal.returns-then-digits-text
returns-then-digits-text c =
    let text : List ℕ = c.in-Some.text.now in
    let n : ℕ = c.leading_number-value.result.1 in
    let read = c.leading_number-value.ensures in (
      take n text,
      ap (λ o. tokens_after (option_copied o)) c.in-Some.is ∙ tokens_of_digits text n read.within read.digits c.if-digits-text.true,
      number_of_digits text n read.within read.digits (omega (arith, c.if-digits-eq0.false)) read.few ∙ ap (λ v. Ok v) (sym read.value),
    )

pub returns-then-text-digits-eq32 : goal.returns-then-text-digits-eq32
returns-then-text-digits-eq32 c =
    let text : List ℕ = c.in-Some.text.now in
    let n : ℕ = c.leading_number-value.result.1 in
    let read = c.leading_number-value.ensures in
    let more : n < length text = omega (arith, read.within, c.if-digits-text.false) in (
      take n text,
      ap (λ o. tokens_after (option_copied o)) c.in-Some.is ∙ tokens_of_front text n read.within read.digits more c.if-text-digits-eq32.true
          ∙ ap (λ rest. take n text ∷ tokens rest) (sym (take-rest (n + 1) text)),
      number_of_digits text n read.within read.digits (omega (arith, c.if-digits-eq0.false)) read.few ∙ ap (λ v. Ok v) (sym read.value),
    )

pub returns-else-text-digits-eq32 : goal.returns-else-text-digits-eq32
returns-else-text-digits-eq32 c =
    let text : List ℕ = c.in-Some.text.now in
    let n : ℕ = c.leading_number-value.result.1 in
    let read = c.leading_number-value.ensures in
    let more : n < length text = omega (arith, read.within, c.if-digits-text.false) in (
      ap (λ o. first_number (tokens_after (option_copied o))) c.in-Some.is
          ∙ first_is_no_number text n read.within read.digits more (ne_eqb _ 32 c.if-text-digits-eq32.false) read.few (λ low. read.ends low more),
      refl,
    )
