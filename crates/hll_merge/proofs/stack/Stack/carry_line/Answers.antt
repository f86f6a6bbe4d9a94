-- SPDX-License-Identifier: Apache-2.0
use Rattle.std.proofs.Common.{◌≡◌, ap, sym, ◌∙◌, Ok, Some}
use Rattle.std.proofs.lemmas.Result.{IfErr-weaker, on_ok_weaker}
use Rattle.hll_text.specs.Step.{step_of, line_reading_of}
use Rattle.hll_text.specs.Text.{reading, image_reading}
use Rattle.hll_merge.proofs.StackLemmas.{gives-step, faults-step, gives-alike, faults-alike}
use Rattle.hll_merge.proofs.stack.Stack.carry_line.Goals as goal

pub returns-in-Image-clause-ok : goal.returns-in-Image-clause-ok
returns-in-Image-clause-ok g c =
    let digits = c.in-Image.digits.now in
    let alike : reading c.args.line.now ≡ image_reading digits = sym c.in_ok-read_line.ensures.reading ∙ ap (λ said. line_reading_of {A = g.row.A.Denot} (Ok said)) c.in-Image.is in
    on_ok_weaker c.push_digits.result (gives-alike reading c.args.self.now c.args.line.now image_reading digits alike _) c.push_digits.ensures.ok

pub returns-in-Image-clause-err : goal.returns-in-Image-clause-err
returns-in-Image-clause-err g c =
    let digits = c.in-Image.digits.now in
    let alike : reading c.args.line.now ≡ image_reading digits = sym c.in_ok-read_line.ensures.reading ∙ ap (λ said. line_reading_of {A = g.row.A.Denot} (Ok said)) c.in-Image.is in
    IfErr-weaker c.push_digits.result _ _ (faults-alike reading c.args.self.now c.args.line.now image_reading digits alike) c.push_digits.ensures.err

pub returns-in-Step-clause-ok : goal.returns-in-Step-clause-ok
returns-in-Step-clause-ok g c =
    let read : reading c.args.line.now ≡ Ok (Some (step_of c.in-Step.step)) = sym c.in_ok-read_line.ensures.reading ∙ ap (λ said. line_reading_of {A = g.row.A.Denot} (Ok said)) c.in-Step.is in
    on_ok_weaker c.carry_out.result (gives-step reading c.args.self.now c.args.line.now (step_of c.in-Step.step) read _) c.carry_out.ensures.ok

pub returns-in-Step-clause-err : goal.returns-in-Step-clause-err
returns-in-Step-clause-err g c =
    let read : reading c.args.line.now ≡ Ok (Some (step_of c.in-Step.step)) = sym c.in_ok-read_line.ensures.reading ∙ ap (λ said. line_reading_of {A = g.row.A.Denot} (Ok said)) c.in-Step.is in
    IfErr-weaker c.carry_out.result _ _ (faults-step reading c.args.self.now c.args.line.now (step_of c.in-Step.step) read) c.carry_out.ensures.err
