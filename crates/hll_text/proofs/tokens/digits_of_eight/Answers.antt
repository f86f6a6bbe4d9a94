-- SPDX-License-Identifier: Apache-2.0
use Rattle.std.proofs.Common.{arith}
use Rattle.hll_text.proofs.LaneLemmas.{first_other-le, digits_before, first_other_is}
use Rattle.hll_text.proofs.tokens.digits_of_eight.Goals as goal

pub returns-else-marks-eq0-clause-digits : goal.returns-else-marks-eq0-clause-digits
returns-else-marks-eq0-clause-digits c = digits_before c.args.text.now c.requires c.other_marks-marks.result c.other_marks-marks.ensures (omega (arith, c.if-marks-eq0.false))

pub returns-else-marks-eq0-clause-few : goal.returns-else-marks-eq0-clause-few
returns-else-marks-eq0-clause-few c = first_other-le c.args.text.now c.requires c.other_marks-marks.result c.other_marks-marks.ensures (omega (arith, c.if-marks-eq0.false))

pub returns-else-marks-eq0-clause-ends : goal.returns-else-marks-eq0-clause-ends
returns-else-marks-eq0-clause-ends c = first_other_is c.args.text.now c.requires c.other_marks-marks.result c.other_marks-marks.ensures (omega (arith, c.if-marks-eq0.false))
