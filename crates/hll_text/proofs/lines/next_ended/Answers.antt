-- SPDX-License-Identifier: Apache-2.0
use Rattle.std.proofs.Common.{arith, ◌+◌, ◌∙◌, ap, sym, ◌∷◌, List, ℕ, drop, length, length-drop}
use Rattle.hll_text.specs.Text.{ended_lines, open_line}
use Rattle.hll_text.proofs.PartLemmas.{ended-some, ended-none, take-rest, position-lt}
use Rattle.hll_text.proofs.CutLemmas.{open-some, open-none}
use Rattle.hll_text.proofs.lines.next_ended.Goals as goal

pub returns-in-None-clause-lines : goal.returns-in-None-clause-lines
returns-in-None-clause-lines c = ended-none c.args.text.now (sym c.in-None.ensures)

pub returns-in-Some-clause-lines : goal.returns-in-Some-clause-lines
returns-in-Some-clause-lines c =
    let rest : List ℕ = drop (c.in-Some.at + 1) c.args.text.now in
    let same = take-rest (c.in-Some.at + 1) c.args.text.now in (
      ended-some c.args.text.now c.in-Some.at (sym c.in-Some.ensures)
          ∙ ap (λ (l : List ℕ). l ∷ ended_lines rest) (sym c.without_return.ensures)
          ∙ ap (λ ws. c.without_return.result.now ∷ ended_lines ws) (sym same),
      omega (arith, ap length same, length-drop (c.in-Some.at + 1) c.args.text.now, position-lt c.args.text.now c.in-Some.at (sym c.in-Some.ensures)),
    )

pub returns-in-None-clause-rest : goal.returns-in-None-clause-rest
returns-in-None-clause-rest c = open-none c.args.text.now (sym c.in-None.ensures)

pub returns-in-Some-clause-rest : goal.returns-in-Some-clause-rest
returns-in-Some-clause-rest c =
    open-some c.args.text.now c.in-Some.at (sym c.in-Some.ensures) ∙ ap open_line (sym (take-rest (c.in-Some.at + 1) c.args.text.now))
