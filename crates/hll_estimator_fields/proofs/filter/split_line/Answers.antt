-- SPDX-License-Identifier: Apache-2.0
use Rattle.std.proofs.Common.{◌+◌, ℕ, List, length, sym, ap, refl, arith, length-drop}
use Rattle.hll_text.proofs.PartLemmas.{take-rest, position-lt}
use Rattle.hll_estimator_fields.proofs.filter.split_line.Goals as goal

pub returns-in-Some-clause-cut : goal.returns-in-Some-clause-cut
returns-in-Some-clause-cut c = (c.in-Some.at, sym c.in-Some.ensures, refl, take-rest (c.in-Some.at + 1) c.args.text.now)

pub returns-in-Some-clause-shorter : goal.returns-in-Some-clause-shorter
returns-in-Some-clause-shorter c =
    let text : List ℕ = c.args.text.now in
    omega (arith, ap length (take-rest (c.in-Some.at + 1) text), length-drop (c.in-Some.at + 1) text, position-lt text c.in-Some.at (sym c.in-Some.ensures))
